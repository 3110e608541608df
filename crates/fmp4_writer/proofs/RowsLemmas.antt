-- Rows that are given one by one.
use Rattle.std.proofs.Common.{◌≡◌, ℕ, zero, suc, ◌+◌, List, [], ◌∷◌, drop, Some, None, refl, sym, ap, ◌∙◌, add-one, drop-cons}
use Rattle.std.specs.Prelude.{slice_get}
use Rattle.std.proofs.lemmas.Option.{slice_get_within, get_or_from_slice_get}
use Rattle.vod_types.specs.declared.tracks.Kind.{Kind}
use Rattle.vod_types.specs.declared.tracks.Kind.TheVariants.{Video, Audio}
use Rattle.vod_types.specs.declared.segments.Row.{Row}
use Rattle.media_model.specs.Fragment.{sizes}
use Rattle.media_model.proofs.Sizes.{sizes-cons}
use Rattle.vod_types.specs.SegmentRows.{SegmentRows, Places, at_front, rows_of, place_of, next_row, rows_left, moved}

-- an element that is there is the first of what is left from its place on
pub drop-slice_get : {A : Type 0} (i : ℕ) (xs : List A) (x : A) → slice_get xs i ≡ Some x → drop i xs ≡ x ∷ drop (i + 1) xs
drop-slice_get i xs x is = rw (add-one, drop-cons xs i x (slice_get_within xs i x is), get_or_from_slice_get xs i x x is) refl

-- past the end nothing is left
pub drop-slice_get_none : {A : Type 0} (i : ℕ) (xs : List A) → slice_get xs i ≡ None → drop i xs ≡ []
drop-slice_get_none zero [] is = refl
drop-slice_get_none (suc i) [] is = refl
drop-slice_get_none zero (x ∷ xs) is = cc
drop-slice_get_none (suc i) (x ∷ xs) is = drop-slice_get_none i xs is

pub place_of-moved : (kind : Kind) (places : Places) → place_of kind (moved kind places) ≡ place_of kind places + 1
place_of-moved Video places = refl
place_of-moved Audio places = refl

-- the row that comes next is the first of those left, and the others are left after it
pub rows_left-next : (kind : Kind) (rows : SegmentRows) (places : Places) (row : Row) → next_row kind rows places ≡ Some row
    → rows_left kind rows places ≡ row ∷ rows_left kind rows (moved kind places)
rows_left-next kind rows places row is =
    drop-slice_get (place_of kind places) (rows_of kind rows) row is
    ∙ ap (λ n. row ∷ drop n (rows_of kind rows)) (sym (place_of-moved kind places))

-- where no row comes next, none is left
pub rows_left-none : (kind : Kind) (rows : SegmentRows) (places : Places) → next_row kind rows places ≡ None → rows_left kind rows places ≡ []
rows_left-none kind rows places is = drop-slice_get_none (place_of kind places) (rows_of kind rows) is

-- the rows that are left before a call of `next` that gave one
pub left_before : (kind : Kind) (rows rows' : SegmentRows) (places places' : Places) (row : Row) → rows' ≡ rows → places' ≡ moved kind places
    → Some row ≡ next_row kind rows places → rows_left kind rows places ≡ row ∷ rows_left kind rows' places'
left_before kind rows rows' places places' row same moves is = rw (same, moves) (rows_left-next kind rows places row (sym is))

-- and before one that gave none
pub none_left : (kind : Kind) (rows : SegmentRows) (places : Places) → None ≡ next_row kind rows places → rows_left kind rows places ≡ []
none_left kind rows places is = rows_left-none kind rows places (sym is)

-- at the front all rows are left
pub rows_at_front : (kind : Kind) (rows : SegmentRows) → rows_left kind rows at_front ≡ rows_of kind rows
rows_at_front Video rows = refl
rows_at_front Audio rows = refl

-- the rows of which `restart` and `next` gave the first
pub rows_of-first : (kind : Kind) (rows rows' rows'' : SegmentRows) (places' places'' : Places) (row : Row) → rows' ≡ rows → places' ≡ at_front
    → rows'' ≡ rows' → places'' ≡ moved kind places' → Some row ≡ next_row kind rows' places' → rows_of kind rows ≡ row ∷ rows_left kind rows'' places''
rows_of-first kind rows rows' rows'' places' places'' row same front same' moves is =
    sym (rows_at_front kind rows) ∙ sym (ap (rows_left kind rows) front) ∙ sym (ap (λ (r : SegmentRows). rows_left kind r places') same)
    ∙ left_before kind rows' rows'' places' places'' row same' moves is

-- there are none where they gave none
pub rows_of-none : (kind : Kind) (rows rows' : SegmentRows) (places' : Places) → rows' ≡ rows → places' ≡ at_front → None ≡ next_row kind rows' places'
    → rows_of kind rows ≡ []
rows_of-none kind rows rows' places' same front is =
    sym (rows_at_front kind rows) ∙ sym (ap (rows_left kind rows) front) ∙ sym (ap (λ (r : SegmentRows). rows_left kind r places') same)
    ∙ none_left kind rows' places' is

-- the bytes of rows, of which the first and those behind it are given
pub sizes-of : (rows : List Row) (row : Row) (rest : List Row) → rows ≡ row ∷ rest → sizes rows ≡ row.sample.size + sizes rest
sizes-of rows row rest are = ap sizes are ∙ sizes-cons row rest
