-- Laws of logs.
use Rattle.std.proofs.Common.{◌≡◌, ℕ, ◌-◌, ◌<◌, Bool, true, false, cond, List, [], ◌∷◌, ◌++◌, map, length, get_or, refl, ap, ◌∙◌, arith, length-append, Any, Some, option_map, slice_get}
use Rattle.std.proofs.lemmas.List.{map-append, get_or_append_left}
use Rattle.std.proofs.Math.Seq.{get_or-append_seam}
use Rattle.std.proofs.lemmas.List.Elements.{All-head, All-tail}
use Rattle.std.proofs.lemmas.Option.{slice_get-map, slice_get_within, get_or_from_slice_get}
use Rattle.vod_source.specs.declared.logged.Lent.{Lent}
use Rattle.vod_source.specs.Logs.{AreNamed, read_of, reads_of, last_name}

-- further names change nothing in a log
pub reads-more_names : (names more : List (List ℕ)) (entries : List Lent) → AreNamed names entries → map (read_of (names ++ more)) entries ≡ map (read_of names) entries
reads-more_names names more [] named = refl
reads-more_names names more (entry ∷ entries) named =
    let one = All-head (λ (e : Lent). e.name < length names) entry entries named in
    let others = reads-more_names names more entries (All-tail (λ (e : Lent). e.name < length names) entry entries named) in
    ap (λ name. (name, entry.at, entry.n) ∷ map (read_of (names ++ more)) entries) (get_or_append_left names more [] entry.name one) ∙ ap (λ l. read_of names entry ∷ l) others

-- the last of names that end with this one
pub last_name-append : (names : List (List ℕ)) (name : List ℕ) → last_name (names ++ name ∷ []) ≡ name
last_name-append names name =
    let last : length (names ++ name ∷ []) - 1 ≡ length names = omega (arith, length-append names (name ∷ [])) in
    ap (λ i. get_or (names ++ name ∷ []) i []) last ∙ get_or-append_seam names name [] []

-- one more entry
pub reads_of-append : (names : List (List ℕ)) (entries : List Lent) (entry : Lent)
    → map (read_of names) (entries ++ entry ∷ []) ≡ map (read_of names) entries ++ read_of names entry ∷ []
reads_of-append names entries entry = map-append (read_of names) entries (entry ∷ [])

-- one more name or none
pub reads-kept : (names : List (List ℕ)) (entries : List Lent) (name : List ℕ) (b : Bool) (names' : List (List ℕ)) (entries' : List Lent)
    → AreNamed names entries → entries' ≡ entries → names' ≡ cond b (names ++ name ∷ []) names → map (read_of names') entries' ≡ map (read_of names) entries
reads-kept names entries name true names' entries' named e f =
    ap (map (read_of names')) e ∙ ap (λ n. map (read_of n) entries) f ∙ reads-more_names names (name ∷ []) entries named
reads-kept names entries name false names' entries' named e f = ap (map (read_of names')) e ∙ ap (λ n. map (read_of n) entries) f

pub last_name-added : (names : List (List ℕ)) (name : List ℕ) (b : Bool) (names' : List (List ℕ)) → names' ≡ cond b (names ++ name ∷ []) names → b ≡ true
    → last_name names' ≡ name
last_name-added names name true names' f added = ap last_name f ∙ last_name-append names name
last_name-added names name false names' f added = cc

-- an entry at its place: what it stands for, and that its name may be asked for
pub read_at : (names : List (List ℕ)) (entries : List Lent) (i : ℕ) (entry : Lent) → slice_get entries i ≡ Some entry
    → slice_get (reads_of names entries) i ≡ Some (read_of names entry)
read_at names entries i entry e = slice_get-map (read_of names) entries i ∙ ap (option_map (read_of names)) e

pub entry_stands : (entries : List Lent) (i : ℕ) (entry : Lent) → slice_get entries i ≡ Some entry → Any (λ e. e.name ≡ entry.name) entries
entry_stands entries i entry e = (i, entry, slice_get_within entries i entry e, get_or_from_slice_get entries i entry entry e, refl)
