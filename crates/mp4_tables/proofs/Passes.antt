-- One pass over a table: what is left to test, entry by entry.
use Rattle.std.proofs.Common.{◌≡◌, ℕ, suc, ◌+◌, ◌-◌, ◌*◌, ◌<◌, ◌≤◌, ℤ, Bool, true, false, ◌&&◌, eqb, List, [], ◌∷◌, drop, Option, Some, None, refl, sym, ap, ◌∙◌, arith, add-one, zero-add, drop-cons}
use Rattle.std.specs.Prelude.{slice_get, sum_by, unsigned_abs, nat_le, nat_lt}
use Rattle.std.specs.List.{list_all}
use Rattle.std.specs.Option.{option_map_or}
use Rattle.std.proofs.lemmas.Bool.{lt-ltb, le-ltb, le-leb, and_right, and_parts, eqb-true, ltb-true}
use Rattle.std.proofs.lemmas.List.Sums.{sum_by-cons}
use Rattle.std.proofs.lemmas.Option.{slice_get_within, get_or_from_slice_get}
use Rattle.mp4_model.specs.Samples.{chunk_runs}
use Rattle.mp4_model.specs.Validity.{is_count, is_up_to, rise_from, begins_at_one, first_chunks_rise, samples_in_chunks, stts_is_good, ctts_is_good, stss_is_good, stsc_is_good}

-- what is left from entry i on is this entry and what is left after it
drop_at : {X : Type 0} (xs : List X) (i : ℕ) (x : X) → slice_get xs i ≡ Some x → drop i xs ≡ x ∷ drop (i + 1) xs
drop_at {X} xs i x e =
    drop-cons xs i x (slice_get_within xs i x e)
    ∙ ap (λ (y : X). y ∷ drop (suc i) xs) (get_or_from_slice_get xs i x x e)
    ∙ ap (λ (k : ℕ). x ∷ drop k xs) (sym (add-one i))

-- ---- runs

-- the runs that are left, where those before count so many samples
abbrev pub runs_left : {X : Type 0} → Option ℕ → ℕ → List (ℕ × X) → Bool
runs_left samples total rest = list_all (λ r. nat_lt 0 r.0) rest && is_count samples (total + sum_by (λ r. r.0) rest)

runs_more : {X : Type 0} (samples : Option ℕ) (total : ℕ) (r : ℕ × X) (rest : List (ℕ × X)) → 0 < r.0 → runs_left samples total (r ∷ rest) ≡ runs_left samples (total + r.0) rest
runs_more {X} samples total r rest some =
    let counted : total + sum_by (λ (s : ℕ × X). s.0) (r ∷ rest) ≡ total + r.0 + sum_by (λ (s : ℕ × X). s.0) rest = omega (arith, sum_by-cons (λ (s : ℕ × X). s.0) r rest) in
    ap (λ (b : Bool). b && list_all (λ (s : ℕ × X). nat_lt 0 s.0) rest && is_count samples (total + sum_by (λ (s : ℕ × X). s.0) (r ∷ rest))) (lt-ltb 0 r.0 some)
    ∙ ap (λ (n : ℕ). list_all (λ (s : ℕ × X). nat_lt 0 s.0) rest && is_count samples n) counted

runs_stop : {X : Type 0} (samples : Option ℕ) (total : ℕ) (r : ℕ × X) (rest : List (ℕ × X)) → r.0 ≡ 0 → runs_left samples total (r ∷ rest) ≡ false
runs_stop samples total r rest none = rw none refl

-- ---- stts

pub times_begin : (samples : Option ℕ) (runs : List (ℕ × ℕ)) → stts_is_good samples runs ≡ runs_left samples 0 (drop 0 runs)
unfolding stts_is_good
times_begin samples runs = rw zero-add refl

pub times_more : (samples : Option ℕ) (total i : ℕ) (r : ℕ × ℕ) (runs : List (ℕ × ℕ)) (good : Bool) → good ≡ runs_left samples total (drop i runs) → slice_get runs i ≡ Some r → 0 < r.0 → good ≡ runs_left samples (total + r.0) (drop (i + 1) runs)
times_more samples total i r runs good left at some = left ∙ ap (runs_left samples total) (drop_at runs i r at) ∙ runs_more samples total r (drop (i + 1) runs) some

pub times_stop : (samples : Option ℕ) (total i : ℕ) (r : ℕ × ℕ) (runs : List (ℕ × ℕ)) (good : Bool) → good ≡ runs_left samples total (drop i runs) → slice_get runs i ≡ Some r → r.0 ≡ 0 → good ≡ false
times_stop samples total i r runs good left at none = left ∙ ap (runs_left samples total) (drop_at runs i r at) ∙ runs_stop samples total r (drop (i + 1) runs) none

-- ---- ctts

abbrev pub is_within_hour : ℕ → ℕ × ℤ → Bool
is_within_hour timescale r = nat_le (unsigned_abs r.1) (3600 * timescale)

abbrev pub offsets_left : Option ℕ → ℕ → ℕ → List (ℕ × ℤ) → Bool
offsets_left samples timescale total rest = runs_left samples total rest && list_all (is_within_hour timescale) rest

pub offsets_begin : (samples : Option ℕ) (timescale : ℕ) (runs : List (ℕ × ℤ)) → ctts_is_good samples timescale runs ≡ offsets_left samples timescale 0 (drop 0 runs)
unfolding ctts_is_good
offsets_begin samples timescale runs = rw zero-add refl

pub offsets_more : (samples : Option ℕ) (timescale total i : ℕ) (r : ℕ × ℤ) (runs : List (ℕ × ℤ)) (good : Bool) → good ≡ offsets_left samples timescale total (drop i runs) → slice_get runs i ≡ Some r → 0 < r.0 → nat_le (unsigned_abs r.1) (3600 * timescale) ≡ true → good ≡ offsets_left samples timescale (total + r.0) (drop (i + 1) runs)
offsets_more samples timescale total i r runs good left at some near =
    left ∙ ap (offsets_left samples timescale total) (drop_at runs i r at)
    ∙ ap (λ (b : Bool). b && list_all (is_within_hour timescale) (r ∷ drop (i + 1) runs)) (runs_more samples total r (drop (i + 1) runs) some)
    ∙ ap (λ (b : Bool). runs_left samples (total + r.0) (drop (i + 1) runs) && (b && list_all (is_within_hour timescale) (drop (i + 1) runs))) near

pub offsets_stop_empty : (samples : Option ℕ) (timescale total i : ℕ) (r : ℕ × ℤ) (runs : List (ℕ × ℤ)) (good : Bool) → good ≡ offsets_left samples timescale total (drop i runs) → slice_get runs i ≡ Some r → r.0 ≡ 0 → good ≡ false
offsets_stop_empty samples timescale total i r runs good left at none =
    left ∙ ap (offsets_left samples timescale total) (drop_at runs i r at)
    ∙ ap (λ (b : Bool). b && list_all (is_within_hour timescale) (r ∷ drop (i + 1) runs)) (runs_stop samples total r (drop (i + 1) runs) none)

pub offsets_stop_far : (samples : Option ℕ) (timescale total i : ℕ) (r : ℕ × ℤ) (runs : List (ℕ × ℤ)) (good : Bool) → good ≡ offsets_left samples timescale total (drop i runs) → slice_get runs i ≡ Some r → nat_le (unsigned_abs r.1) (3600 * timescale) ≡ false → good ≡ false
offsets_stop_far samples timescale total i r runs good left at far =
    left ∙ ap (offsets_left samples timescale total) (drop_at runs i r at)
    ∙ and_right (runs_left samples total (r ∷ drop (i + 1) runs)) (list_all (is_within_hour timescale) (r ∷ drop (i + 1) runs)) (ap (λ (b : Bool). b && list_all (is_within_hour timescale) (drop (i + 1) runs)) far)

-- ---- stss

abbrev pub syncs_left : Option ℕ → ℕ → List ℕ → Bool
syncs_left samples before rest = rise_from before rest && list_all (is_up_to samples) rest

pub syncs_begin : (samples : Option ℕ) (numbers : List ℕ) → stss_is_good samples numbers ≡ syncs_left samples 0 (drop 0 numbers)
unfolding stss_is_good
syncs_begin samples numbers = refl

pub syncs_more : (samples : Option ℕ) (before i n : ℕ) (numbers : List ℕ) (good : Bool) → good ≡ syncs_left samples before (drop i numbers) → slice_get numbers i ≡ Some n → before < n → is_up_to samples n ≡ true → good ≡ syncs_left samples n (drop (i + 1) numbers)
syncs_more samples before i n numbers good left at above within =
    left ∙ ap (syncs_left samples before) (drop_at numbers i n at)
    ∙ ap (λ (b : Bool). b && rise_from n (drop (i + 1) numbers) && (is_up_to samples n && list_all (is_up_to samples) (drop (i + 1) numbers))) (lt-ltb before n above)
    ∙ ap (λ (b : Bool). rise_from n (drop (i + 1) numbers) && (b && list_all (is_up_to samples) (drop (i + 1) numbers))) within

pub syncs_stop_low : (samples : Option ℕ) (before i n : ℕ) (numbers : List ℕ) (good : Bool) → good ≡ syncs_left samples before (drop i numbers) → slice_get numbers i ≡ Some n → n ≤ before → good ≡ false
syncs_stop_low samples before i n numbers good left at low =
    left ∙ ap (syncs_left samples before) (drop_at numbers i n at)
    ∙ ap (λ (b : Bool). b && rise_from n (drop (i + 1) numbers) && list_all (is_up_to samples) (n ∷ drop (i + 1) numbers)) (le-ltb before n low)

pub syncs_stop_high : (samples : Option ℕ) (before i n : ℕ) (numbers : List ℕ) (good : Bool) → good ≡ syncs_left samples before (drop i numbers) → slice_get numbers i ≡ Some n → is_up_to samples n ≡ false → good ≡ false
syncs_stop_high samples before i n numbers good left at high =
    left ∙ ap (syncs_left samples before) (drop_at numbers i n at)
    ∙ and_right (rise_from before (n ∷ drop (i + 1) numbers)) (list_all (is_up_to samples) (n ∷ drop (i + 1) numbers)) (ap (λ (b : Bool). b && list_all (is_up_to samples) (drop (i + 1) numbers)) high)

-- ---- stsc

-- a run after one with this first chunk
abbrev pub is_next_run : Option ℕ → ℕ → ℕ × ℕ × ℕ → Bool
is_next_run chunks before r = nat_lt before r.0 && is_up_to chunks r.0 && nat_lt 0 r.1 && eqb r.2 1

-- the samples from a run on, where those before have so many
abbrev pub counts_left : Option ℕ → Option ℕ → ℕ → ℕ × ℕ × ℕ → List (ℕ × ℕ × ℕ) → Bool
counts_left samples chunks total run rest = option_map_or (λ n. is_count samples (total + samples_in_chunks (run ∷ rest) n)) chunks true

abbrev pub chunks_left : Option ℕ → Option ℕ → ℕ → ℕ → ℕ → List (ℕ × ℕ × ℕ) → Bool
chunks_left samples chunks before each total rest =
    first_chunks_rise before rest && list_all (λ r. is_up_to chunks r.0) rest && list_all (λ r. nat_lt 0 r.1) rest && list_all (λ r. eqb r.2 1) rest
    && counts_left samples chunks total (before, each, 1) rest

pub chunks_wrong : (samples chunks : Option ℕ) (runs : List (ℕ × ℕ × ℕ)) → begins_at_one runs ≡ false → stsc_is_good samples chunks runs ≡ false
unfolding stsc_is_good
chunks_wrong samples chunks runs e = rw e refl

samples_in_chunks-cons : (s r : ℕ × ℕ × ℕ) (rest : List (ℕ × ℕ × ℕ)) (n : ℕ) → samples_in_chunks (s ∷ r ∷ rest) n ≡ (r.0 - s.0) * s.1 + samples_in_chunks (r ∷ rest) n
samples_in_chunks-cons s r rest n = sum_by-cons (λ (q : ℕ × ℕ). q.0 * q.1) (r.0 - s.0, s.1) (chunk_runs (r ∷ rest) n)

counts_begin : (samples chunks : Option ℕ) (runs : List (ℕ × ℕ × ℕ)) → option_map_or (λ (n : ℕ). is_count samples (samples_in_chunks runs n)) chunks true ≡ counts_left samples chunks 0 (0, 0, 1) runs
counts_begin samples None runs = refl
counts_begin samples (Some n) [] = ap (is_count samples) (omega arith)
counts_begin samples (Some n) (r ∷ rest) = ap (is_count samples) (omega (arith, samples_in_chunks-cons (0, 0, 1) r rest n))

pub chunks_begin : (samples chunks : Option ℕ) (runs : List (ℕ × ℕ × ℕ)) → begins_at_one runs ≡ true → stsc_is_good samples chunks runs ≡ chunks_left samples chunks 0 0 0 (drop 0 runs)
unfolding stsc_is_good
chunks_begin samples chunks runs e = rw (e, counts_begin samples chunks runs) refl

counts_more : (samples chunks : Option ℕ) (before each total : ℕ) (r : ℕ × ℕ × ℕ) (rest : List (ℕ × ℕ × ℕ)) → r.2 ≡ 1 → counts_left samples chunks total (before, each, 1) (r ∷ rest) ≡ counts_left samples chunks (total + (r.0 - before) * each) (r.0, r.1, 1) rest
counts_more samples None before each total r rest one = refl
counts_more samples (Some n) before each total r rest one =
    let same : samples_in_chunks (r ∷ rest) n ≡ samples_in_chunks ((r.0, r.1, 1) ∷ rest) n = ap (λ (k : ℕ). samples_in_chunks ((r.0, r.1, k) ∷ rest) n) one in
    ap (is_count samples) (omega (arith, samples_in_chunks-cons (before, each, 1) r rest n, same))

-- the tests of one run and of those after it, test by test or run by run
all_pass : (a b c d : Bool) (ra rb rc rd re : Bool) → (a && b && c && d) ≡ true → (a && ra && (b && rb) && (c && rc) && (d && rd) && re) ≡ (ra && rb && rc && rd && re)
all_pass true true true true ra rb rc rd re e = refl
all_pass false b c d ra rb rc rd re e = absurd cc
all_pass true false c d ra rb rc rd re e = absurd cc
all_pass true true false d ra rb rc rd re e = absurd cc
all_pass true true true false ra rb rc rd re e = absurd cc

one_fails : (a b c d : Bool) (ra rb rc rd re : Bool) → (a && b && c && d) ≡ false → (a && ra && (b && rb) && (c && rc) && (d && rd) && re) ≡ false
one_fails false b c d ra rb rc rd re e = refl
one_fails true false c d ra rb rc rd re e = ap (λ (x : Bool). x && (c && rc) && (d && rd) && re) (and_right ra false refl)
one_fails true true false d ra rb rc rd re e = ap (λ (x : Bool). x && (d && rd) && re) (and_right (ra && rb) false refl)
one_fails true true true false ra rb rc rd re e = ap (λ (x : Bool). x && re) (and_right (ra && rb && rc) false refl)
one_fails true true true true ra rb rc rd re e = absurd cc

pub zero_within : (chunks : Option ℕ) → is_up_to chunks 0 ≡ true
zero_within None = refl
zero_within (Some n) = le-leb 0 n (omega arith)

-- the first chunk of a next run is one of the track's, and it is above the one before
pub next_run : (chunks : Option ℕ) (before : ℕ) (r : ℕ × ℕ × ℕ) → is_next_run chunks before r ≡ true → (before < r.0) × (is_up_to chunks r.0 ≡ true)
next_run chunks before r e =
    let p2 = and_parts (nat_lt before r.0 && is_up_to chunks r.0 && nat_lt 0 r.1) (eqb r.2 1) e in
    let p1 = and_parts (nat_lt before r.0 && is_up_to chunks r.0) (nat_lt 0 r.1) p2.0 in
    let p0 = and_parts (nat_lt before r.0) (is_up_to chunks r.0) p1.0 in
    (ltb-true before r.0 p0.0, p0.1)

pub chunks_more : (samples chunks : Option ℕ) (before each total i : ℕ) (r : ℕ × ℕ × ℕ) (runs : List (ℕ × ℕ × ℕ)) (good : Bool) → good ≡ chunks_left samples chunks before each total (drop i runs) → slice_get runs i ≡ Some r → is_next_run chunks before r ≡ true → good ≡ chunks_left samples chunks r.0 r.1 (total + (r.0 - before) * each) (drop (i + 1) runs)
chunks_more samples chunks before each total i r runs good left at next =
    let rest : List (ℕ × ℕ × ℕ) = drop (i + 1) runs in
    let up_to : Bool = list_all (λ (s : ℕ × ℕ × ℕ). is_up_to chunks s.0) rest in
    let not_empty : Bool = list_all (λ (s : ℕ × ℕ × ℕ). nat_lt 0 s.1) rest in
    let described : Bool = list_all (λ (s : ℕ × ℕ × ℕ). eqb s.2 1) rest in
    let one : r.2 ≡ 1 = eqb-true r.2 1 (and_parts (nat_lt before r.0 && is_up_to chunks r.0 && nat_lt 0 r.1) (eqb r.2 1) next).1 in
    left ∙ ap (chunks_left samples chunks before each total) (drop_at runs i r at)
    ∙ all_pass (nat_lt before r.0) (is_up_to chunks r.0) (nat_lt 0 r.1) (eqb r.2 1) (first_chunks_rise r.0 rest) up_to not_empty described (counts_left samples chunks total (before, each, 1) (r ∷ rest)) next
    ∙ ap (λ (b : Bool). first_chunks_rise r.0 rest && up_to && not_empty && described && b) (counts_more samples chunks before each total r rest one)

pub chunks_stop : (samples chunks : Option ℕ) (before each total i : ℕ) (r : ℕ × ℕ × ℕ) (runs : List (ℕ × ℕ × ℕ)) (good : Bool) → good ≡ chunks_left samples chunks before each total (drop i runs) → slice_get runs i ≡ Some r → is_next_run chunks before r ≡ false → good ≡ false
chunks_stop samples chunks before each total i r runs good left at next =
    let rest : List (ℕ × ℕ × ℕ) = drop (i + 1) runs in
    left ∙ ap (chunks_left samples chunks before each total) (drop_at runs i r at)
    ∙ one_fails (nat_lt before r.0) (is_up_to chunks r.0) (nat_lt 0 r.1) (eqb r.2 1) (first_chunks_rise r.0 rest) (list_all (λ (s : ℕ × ℕ × ℕ). is_up_to chunks s.0) rest) (list_all (λ (s : ℕ × ℕ × ℕ). nat_lt 0 s.1) rest) (list_all (λ (s : ℕ × ℕ × ℕ). eqb s.2 1) rest)
    (counts_left samples chunks total (before, each, 1) (r ∷ rest)) next
