-- Lists that are written out entry by entry or run by run: one step of each.
use Rattle.std.proofs.Common.{◌≡◌, ℕ, zero, suc, ◌+◌, ◌-◌, ◌<◌, ◌≤◌, ◌^◌, ◌*◌, Bool, true, false, cond, eqb, List, [], ◌∷◌, ◌++◌, length, map, take, drop, get_or, set, Option, Some, None, All, inl, inr, refl, sym, ap, subst, ◌∙◌, arith, append-nil, append_assoc}
use Rattle.std.specs.Prelude.{slice_get, filter, sum_by, ◌||◌}
use Rattle.std.specs.Option.{option_map_or}
use Rattle.std.specs.List.{zip, list_any, range_with_len}
use Rattle.std.proofs.Math.ListN.{replicate}
use Rattle.std.proofs.lemmas.Bool.{cases_eq, eqb-true, eqb-false, eq-eqb, ne_eqb}
use Rattle.std.proofs.lemmas.List.{take_more, take_all, drop_all, get_or-set_same, get_or-set_other, length-replicate, get_or-replicate}
use Rattle.std.proofs.lemmas.List.Folds.{list_any_more}
use Rattle.std.proofs.lemmas.List.FromFn.{map-range_with_len_more, fill_by_all}
use Rattle.std.proofs.lemmas.List.Elements.{All-append, All-replicate, All-cons, All-nil, filter-append}
use Rattle.std.proofs.lemmas.List.Sums.{sum_by-append, sum_by-cons}
use Rattle.std.proofs.lemmas.Option.{get_or_from_slice_get}
use Rattle.mp4_model.specs.Runs.{written_out}
use Rattle.mp4_model.specs.Samples.{chunk_runs, chunks_from, chunk_offsets, sample_chunks, sample_sizes, sample_offset, bytes_before_in_chunk, is_sync}
use Rattle.mp4_model.specs.Tables.{SampleTables}
use Rattle.mp4_model.proofs.RunsLemmas.{written_out-append}

-- ---- entries and runs

pub entries_more : {X : Type 0} (xs : List X) (i : ℕ) (x : X) → i < length xs → slice_get xs i ≡ Some x → take (i + 1) xs ≡ take i xs ++ x ∷ []
entries_more xs i x h at = take_more xs i x h ∙ ap (λ y. take i xs ++ y ∷ []) (get_or_from_slice_get xs i x x at)

pub entry_pushed : (xs old new : List ℕ) (i x y : ℕ) → i < length xs → slice_get xs i ≡ Some x → y ≡ x → old ≡ take i xs → new ≡ old ++ y ∷ [] → new ≡ take (i + 1) xs
entry_pushed xs old new i x y h at same was is = is ∙ ap (λ l. l ++ y ∷ []) was ∙ ap (λ n. take i xs ++ n ∷ []) same ∙ sym (entries_more xs i x h at)

pub small_pushed : (bound : ℕ) (old new : List ℕ) (y : ℕ) → All (λ n. n < bound) old → y < bound → new ≡ old ++ y ∷ [] → All (λ n. n < bound) new
small_pushed bound old new y small h is =
    let P : ℕ → Type 0 = λ n. n < bound in
    subst (All P) (sym is) (All-append P old (y ∷ []) small (All-cons P y [] h (All-nil P)))

pub runs_more : {X : Type 0} (runs : List (ℕ × X)) (i : ℕ) (r : ℕ × X) → i < length runs → slice_get runs i ≡ Some r → written_out (take (i + 1) runs) ≡ written_out (take i runs) ++ replicate r.0 r.1
runs_more {X} runs i r h at =
    ap written_out (entries_more runs i r h at)
    ∙ written_out-append (take i runs) (r ∷ [])
    ∙ ap (λ (l : List X). written_out (take i runs) ++ l) (append-nil (replicate r.0 r.1))

-- ---- runs of chunks

pub length-chunk_runs : (runs : List (ℕ × ℕ × ℕ)) (chunks : ℕ) → length (chunk_runs runs chunks) ≡ length runs
length-chunk_runs [] chunks = refl
length-chunk_runs (r ∷ []) chunks = refl
length-chunk_runs (r ∷ s ∷ runs) chunks = ap suc (length-chunk_runs (s ∷ runs) chunks)

between : (runs : List (ℕ × ℕ × ℕ)) (chunks i : ℕ) (r s : ℕ × ℕ × ℕ) → slice_get runs i ≡ Some r → slice_get runs (suc i) ≡ Some s → slice_get (chunk_runs runs chunks) i ≡ Some (s.0 - r.0, r.1)
between [] chunks i r s at next = absurd cc
between (q ∷ []) chunks i r s at next = absurd cc
between (q ∷ p ∷ runs) chunks zero r s at next = let e : q ≡ r = cc in let f : p ≡ s = cc in rw (e, f) refl
between (q ∷ p ∷ runs) chunks (suc i) r s at next = between (p ∷ runs) chunks i r s at next

last_one : (runs : List (ℕ × ℕ × ℕ)) (chunks i : ℕ) (r : ℕ × ℕ × ℕ) → slice_get runs i ≡ Some r → length runs ≡ suc i → slice_get (chunk_runs runs chunks) i ≡ Some (chunks + 1 - r.0, r.1)
last_one [] chunks i r at last = absurd cc
last_one (q ∷ []) chunks zero r at last = let e : q ≡ r = cc in rw e refl
last_one (q ∷ []) chunks (suc i) r at last = absurd cc
last_one (q ∷ p ∷ runs) chunks zero r at last = absurd (omega arith)
last_one (q ∷ p ∷ runs) chunks (suc i) r at last = last_one (p ∷ runs) chunks i r at (omega arith)

-- run i reaches to the next one, or to the last chunk
pub chunk_run_between : (runs : List (ℕ × ℕ × ℕ)) (chunks i : ℕ) (r s : ℕ × ℕ × ℕ) → slice_get runs i ≡ Some r → slice_get runs (i + 1) ≡ Some s → slice_get (chunk_runs runs chunks) i ≡ Some (s.0 - r.0, r.1)
chunk_run_between runs chunks i r s at next = between runs chunks i r s at (subst (λ (n : ℕ). slice_get runs n ≡ Some s) (let e : i + 1 ≡ suc i = omega arith in e) next)

pub chunk_run_last : (runs : List (ℕ × ℕ × ℕ)) (chunks i : ℕ) (r : ℕ × ℕ × ℕ) → slice_get runs i ≡ Some r → length runs ≡ i + 1 → slice_get (chunk_runs runs chunks) i ≡ Some (chunks + 1 - r.0, r.1)
chunk_run_last runs chunks i r at last = last_one runs chunks i r at (omega arith)

chunks_step : (first i : ℕ) (counts : List ℕ) → i < length counts → chunks_from first (take (suc i) counts) ≡ chunks_from first (take i counts) ++ replicate (get_or counts i 0) (first + i)
chunks_step first i [] h = absurd (omega arith)
chunks_step first zero (c ∷ counts) h = append-nil (replicate c first) ∙ ap (replicate c) (let e : first ≡ first + 0 = omega arith in e)
chunks_step first (suc i) (c ∷ counts) h =
    ap (λ (l : List ℕ). replicate c first ++ l) (chunks_step (first + 1) i counts (omega arith))
    ∙ sym (append_assoc (replicate c first) (chunks_from (first + 1) (take i counts)) (replicate (get_or counts i 0) ((first + 1) + i)))
    ∙ ap (λ (n : ℕ). chunks_from first (take (suc i) (c ∷ counts)) ++ replicate (get_or counts i 0) n) (let e : (first + 1) + i ≡ first + suc i = omega arith in e)

pub chunks_more : (counts : List ℕ) (i : ℕ) → i < length counts → chunks_from 0 (take (i + 1) counts) ≡ chunks_from 0 (take i counts) ++ replicate (get_or counts i 0) i
chunks_more counts i h =
    ap (λ (n : ℕ). chunks_from 0 (take n counts)) (let e : i + 1 ≡ suc i = omega arith in e)
    ∙ chunks_step 0 i counts h
    ∙ ap (λ (n : ℕ). chunks_from 0 (take i counts) ++ replicate (get_or counts i 0) n) (let e : 0 + i ≡ i = omega arith in e)

pub chunks_within : (end first : ℕ) (counts : List ℕ) → first + length counts ≤ end → All (λ c. c < end) (chunks_from first counts)
chunks_within end first [] h = λ i d lt. absurd (omega arith)
chunks_within end first (c ∷ counts) h =
    All-append (λ x. x < end) (replicate c first) (chunks_from (first + 1) counts)
    (All-replicate (λ x. x < end) c first (omega arith)) (chunks_within end (first + 1) counts (omega arith))

-- ---- the bytes before a sample in its chunk

-- the second numbers where the first is m
abbrev pub worth : ℕ → List (ℕ × ℕ) → ℕ
worth m pairs = sum_by (λ (s : ℕ × ℕ). s.1) (filter (λ (s : ℕ × ℕ). eqb s.0 m) pairs)

zip_step : (cs ss : List ℕ) (i : ℕ) → i < length cs → i < length ss → take (suc i) (zip cs ss) ≡ take i (zip cs ss) ++ (get_or cs i 0, get_or ss i 0) ∷ []
zip_step [] ss i h k = absurd (omega arith)
zip_step (c ∷ cs) [] i h k = absurd (omega arith)
zip_step (c ∷ cs) (s ∷ ss) zero h k = refl
zip_step (c ∷ cs) (s ∷ ss) (suc i) h k = ap (λ (l : List (ℕ × ℕ)). (c, s) ∷ l) (zip_step cs ss i (omega arith) (omega arith))

worth_one : (m : ℕ) (p : ℕ × ℕ) (b : Bool) → eqb p.0 m ≡ b → worth m (p ∷ []) ≡ cond b p.1 0
worth_one m p true e = rw e (sum_by-cons (λ (s : ℕ × ℕ). s.1) p [] ∙ (let z : p.1 + 0 ≡ p.1 = omega arith in z))
worth_one m p false e = rw e refl

pub worth_more : (cs ss : List ℕ) (m i : ℕ) → i < length cs → i < length ss → worth m (take (i + 1) (zip cs ss)) ≡ worth m (take i (zip cs ss)) + cond (eqb (get_or cs i 0) m) (get_or ss i 0) 0
worth_more cs ss m i h k =
    let p : ℕ × ℕ = (get_or cs i 0, get_or ss i 0) in
    let before : List (ℕ × ℕ) = take i (zip cs ss) in
    ap (worth m) (ap (λ (n : ℕ). take n (zip cs ss)) (let e : i + 1 ≡ suc i = omega arith in e) ∙ zip_step cs ss i h k)
    ∙ ap (sum_by (λ (s : ℕ × ℕ). s.1)) (filter-append (λ (s : ℕ × ℕ). eqb s.0 m) before (p ∷ []))
    ∙ sum_by-append (λ (s : ℕ × ℕ). s.1) (filter (λ (s : ℕ × ℕ). eqb s.0 m) before) (filter (λ (s : ℕ × ℕ). eqb s.0 m) (p ∷ []))
    ∙ ap (λ (n : ℕ). worth m before + n) (worth_one m p (eqb p.0 m) refl)

before_in_chunk : (cs ss : List ℕ) (i : ℕ) → bytes_before_in_chunk cs ss i ≡ worth (get_or cs i 0) (take i (zip cs ss))
unfolding bytes_before_in_chunk
before_in_chunk cs ss i = refl

-- where the next sample of each chunk begins, past so many samples; the chunks themselves begin below 2^64
pub record AreNext (chunks sizes first now : List ℕ) (i : ℕ) : Type 0 where
  pub next : (c : ℕ) → c < length first → get_or now c 0 ≡ get_or first c 0 + worth c (take i (zip chunks sizes))
  pub fits : (c : ℕ) → c < length first → get_or now c 0 < 2 ^ 64 + 2 ^ 32 * i

pub next_none : (chunks sizes first : List ℕ) → All (λ x. x < 2 ^ 64) first → AreNext chunks sizes first first 0
next_none chunks sizes first small = record {
  next = λ c h. omega arith;
  fits = λ c h. let lt : get_or first c 0 < 2 ^ 64 = small c 0 h in omega (arith, lt);
}

more_at : (m c now first worth size worth_now : ℕ) (b : Bool) → eqb m c ≡ b → worth_now ≡ worth + cond b size 0 → now ≡ first + worth → m ≡ c → now + size ≡ first + worth_now
more_at m c now first worth size worth_now true e w h same = omega arith
more_at m c now first worth size worth_now false e w h same = absurd (eqb-false m c e same)

more_besides : (m c now first worth size worth_now : ℕ) (b : Bool) → eqb m c ≡ b → worth_now ≡ worth + cond b size 0 → now ≡ first + worth → (m ≡ c → ⊥) → now ≡ first + worth_now
more_besides m c now first worth size worth_now true e w h other = absurd (other (eqb-true m c e))
more_besides m c now first worth size worth_now false e w h other = omega arith

pub next_more : (chunks sizes first now : List ℕ) (i : ℕ) → i < length chunks → i < length sizes → get_or chunks i 0 < length first → length now ≡ length first → get_or sizes i 0 < 2 ^ 32 →
    AreNext chunks sizes first now i → AreNext chunks sizes first (set now (get_or chunks i 0) (get_or now (get_or chunks i 0) 0 + get_or sizes i 0)) (i + 1)
next_more chunks sizes first now i h k within same small are =
    let m : ℕ = get_or chunks i 0 in
    let size : ℕ = get_or sizes i 0 in
    let inside : m < length now = omega arith in
    let at : get_or (set now m (get_or now m 0 + size)) m 0 ≡ get_or now m 0 + size = get_or-set_same now m (get_or now m 0 + size) 0 inside in
    let besides : (c : ℕ) → (m ≡ c → ⊥) → get_or (set now m (get_or now m 0 + size)) c 0 ≡ get_or now c 0 = λ c other. get_or-set_other now m c (get_or now m 0 + size) 0 (λ e. other (sym e)) in
    record {
      next = λ c lt. elim (cases_eq m c) [
        | inl e ↦ subst (λ (n : ℕ). get_or (set now m (get_or now m 0 + size)) n 0 ≡ get_or first n 0 + worth n (take (i + 1) (zip chunks sizes))) e
            (at ∙ more_at m m (get_or now m 0) (get_or first m 0) (worth m (take i (zip chunks sizes))) size (worth m (take (i + 1) (zip chunks sizes))) (eqb m m) refl (worth_more chunks sizes m i h k) (are.next m within) refl)
        | inr other ↦ besides c other
            ∙ more_besides m c (get_or now c 0) (get_or first c 0) (worth c (take i (zip chunks sizes))) size (worth c (take (i + 1) (zip chunks sizes))) (eqb m c) refl (worth_more chunks sizes c i h k) (are.next c lt) other
      ];
      fits = λ c lt. elim (cases_eq m c) [
        | inl e ↦ subst (λ (n : ℕ). get_or (set now m (get_or now m 0 + size)) n 0 < 2 ^ 64 + 2 ^ 32 * (i + 1)) e (omega (arith, at, are.fits m within, small))
        | inr other ↦ omega (arith, besides c other, are.fits c lt)
      ];
    }

-- one more sample begins where its chunk's next one does
pub offsets_more : (chunks sizes first now before after : List ℕ) (i offset : ℕ) → get_or chunks i 0 < length first → AreNext chunks sizes first now i →
    before ≡ map (λ k. get_or first (get_or chunks k 0) 0 + bytes_before_in_chunk chunks sizes k) (range_with_len 0 i) → after ≡ before ++ offset ∷ [] → offset ≡ get_or now (get_or chunks i 0) 0 →
    after ≡ map (λ k. get_or first (get_or chunks k 0) 0 + bytes_before_in_chunk chunks sizes k) (range_with_len 0 (i + 1))
offsets_more chunks sizes first now before after i offset within are was is at =
    let f : ℕ → ℕ = λ k. get_or first (get_or chunks k 0) 0 + bytes_before_in_chunk chunks sizes k in
    let here : offset ≡ f i = at ∙ are.next (get_or chunks i 0) within ∙ ap (λ n. get_or first (get_or chunks i 0) 0 + n) (sym (before_in_chunk chunks sizes i)) in
    is ∙ ap (λ l. l ++ offset ∷ []) was ∙ ap (λ n. map f (range_with_len 0 i) ++ n ∷ []) here ∙ sym (map-range_with_len_more f 0 i i (omega arith))

pub offsets_are : (t : SampleTables) (first chunks sizes : List ℕ) (n : ℕ) → first ≡ chunk_offsets t → chunks ≡ sample_chunks t → sizes ≡ sample_sizes t →
    map (λ k. get_or first (get_or chunks k 0) 0 + bytes_before_in_chunk chunks sizes k) (range_with_len 0 n) ≡ map (sample_offset t) (range_with_len 0 n)
unfolding sample_offset
offsets_are t first chunks sizes n e f g = rw (e, f, g) refl

-- ---- flags of the sync samples

flag_at : (a b : Bool) → (a || (b || true)) ≡ true
flag_at true b = refl
flag_at false true = refl
flag_at false false = refl

flag_besides : (a b : Bool) → (a || (b || false)) ≡ (a || b)
flag_besides true b = refl
flag_besides false true = refl
flag_besides false false = refl

pub flag_more : (flags : List Bool) (a : Bool) (numbers : List ℕ) (i n k : ℕ) → i < length numbers → slice_get numbers i ≡ Some n → 1 ≤ n → n ≤ length flags →
    get_or flags k false ≡ (a || list_any (λ m. eqb m (k + 1)) (take i numbers)) → get_or (set flags (n - 1) true) k false ≡ (a || list_any (λ m. eqb m (k + 1)) (take (i + 1) numbers))
flag_more flags a numbers i n k h at low high was =
    let p : ℕ → Bool = λ m. eqb m (k + 1) in
    let b : Bool = list_any p (take i numbers) in
    let more : list_any p (take (i + 1) numbers) ≡ (b || p n) = list_any_more p numbers i n h ∙ ap (λ m. b || p m) (get_or_from_slice_get numbers i n n at) in
    elim (cases_eq n (k + 1)) [
      | inl e ↦
          let same : k ≡ n - 1 = omega arith in
          let set_there : get_or (set flags (n - 1) true) k false ≡ true = subst (λ (j : ℕ). get_or (set flags (n - 1) true) j false ≡ true) (sym same) (get_or-set_same flags (n - 1) true false (omega arith)) in
          set_there ∙ sym (ap (λ c. a || c) (more ∙ ap (λ c. b || c) (eq-eqb n (k + 1) e)) ∙ flag_at a b)
      | inr other ↦
          let apart : k ≡ n - 1 → ⊥ = λ same. other (omega arith) in
          get_or-set_other flags (n - 1) k true false apart ∙ was ∙ sym (ap (λ c. a || c) (more ∙ ap (λ c. b || c) (ne_eqb n (k + 1) other)) ∙ flag_besides a b)
    ]

pub syncs_all : (t : SampleTables) (samples : ℕ) (flags : List Bool) → t.stss ≡ None → flags ≡ replicate samples true → flags ≡ map (is_sync t) (range_with_len 0 samples)
syncs_all t samples flags none is =
    fill_by_all (is_sync t) flags samples false (ap length is ∙ length-replicate samples true)
    (λ k h. ap (λ l. get_or l k false) is ∙ get_or-replicate samples k true false h ∙ sym (ap (λ (o : Option (List ℕ)). option_map_or (λ numbers. list_any (λ n. eqb n (k + 1)) numbers) o true) none))

pub syncs_marked : (t : SampleTables) (samples : ℕ) (numbers : List ℕ) (old new : List Bool) → t.stss ≡ Some numbers → old ≡ replicate samples false → length new ≡ length old →
    ((k : ℕ) → k < length old → get_or new k false ≡ (get_or old k false || list_any (λ n. eqb n (k + 1)) numbers)) → new ≡ map (is_sync t) (range_with_len 0 samples)
syncs_marked t samples numbers old new some was same each =
    let count : length old ≡ samples = ap length was ∙ length-replicate samples false in
    fill_by_all (is_sync t) new samples false (same ∙ count)
    (λ k h.
    let b : Bool = list_any (λ n. eqb n (k + 1)) numbers in
    each k (omega arith) ∙ ap (λ c. c || b) (ap (λ l. get_or l k false) was ∙ get_or-replicate samples k false false h)
    ∙ sym (ap (λ (o : Option (List ℕ)). option_map_or (λ numbers. list_any (λ n. eqb n (k + 1)) numbers) o true) some))

-- a list that was written through a slice of all of it
pub slice_written : {X : Type 0} (n : ℕ) (written old : List X) → length written ≡ n → length old ≡ n → take n (written ++ drop (length written) old) ≡ written
slice_written n written old e f =
    ap (λ l. take n (written ++ l)) (drop_all (length written) old (omega arith)) ∙ ap (take n) (append-nil written) ∙ take_all n written (omega arith)
