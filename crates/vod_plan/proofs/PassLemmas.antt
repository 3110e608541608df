-- A pass over rows in writing order.
use Rattle.std.proofs.Common.{◌≡◌, ℕ, suc, ◌+◌, ◌*◌, ◌≤◌, true, false, List, [], ◌∷◌, ◌++◌, length, map, take, drop, get_or, Option, Some, None, All, refl, sym, ap, ap₂, ◌∙◌, arith, add-one, drop-cons, length-append}
use Rattle.std.specs.Prelude.{slice_get, unwrap_or}
use Rattle.std.specs.List.{prefix_len}
use Rattle.std.proofs.lemmas.List.{drop_all, length-map, take-append-drop}
use Rattle.std.proofs.lemmas.Option.{slice_get_within, unwrap_or-slice_get}
use Rattle.vod_types.specs.declared.segments.Form.{Form}
use Rattle.vod_types.specs.declared.segments.Form.TheVariants.{Ts, Fmp4}
use Rattle.vod_types.specs.declared.segments.Row.{Row}
use Rattle.vod_types.specs.declared.tracks.Kind.{Kind}
use Rattle.vod_types.specs.declared.tracks.Kind.TheVariants.{Video, Audio}
use Rattle.segment_model.specs.Rows.{TimedRow, written_row}
use Rattle.media_model.specs.WritingOrder.{of_track, is_before, writing_order}
use Rattle.time_runs.specs.declared.cursor.TimeCursor.{TimeCursor}
use Rattle.chunk_runs.specs.declared.cursor.PlaceCursor.{PlaceCursor}
use Rattle.vod_plan.specs.declared.passes.Pass.{Pass}
use Rattle.vod_plan.specs.declared.samples.DueRow.{DueRow}
use Rattle.vod_plan.specs.declared.spans.PlanPiece.{PlanPiece}
use Rattle.vod_plan.specs.declared.walk.Walk.{Walk}
use Rattle.vod_plan.specs.Dues.{due_view, shown}
use Rattle.vod_plan.specs.Passes.{audio_first, looks_for, looks_of, ordered_rows, rows_behind, rows_left, with_next, IsPass, IsTurn}
use Rattle.vod_plan.specs.Ranges.{PlannedPiece, planned_of}
use Rattle.vod_plan.specs.RowFaults.{ordered}
use Rattle.vod_plan.specs.Spans.{piece_view, rows_before, IsPlanPiece}
use Rattle.vod_plan.specs.Walks.{behind, IsWalk}
use Rattle.vod_plan.proofs.RangeLemmas.{planned-count}
use Rattle.vod_plan.proofs.WalkLemmas.{behind-some, piece_within}

-- ---- the rows behind a walk

left_is : {X : Type 0} (xs : List X) (i : ℕ) (x : X) → slice_get xs i ≡ Some x → drop i xs ≡ x ∷ drop (i + 1) xs
left_is xs i x e =
    let here : drop i xs ≡ get_or xs i x ∷ drop (i + 1) xs = rw add-one (drop-cons xs i x (slice_get_within xs i x e)) in
    let got : get_or xs i x ≡ x = sym (unwrap_or-slice_get xs i x) ∙ ap (λ (o : Option _). unwrap_or o x) e in
    here ∙ ap (λ y. y ∷ drop (i + 1) xs) got

module _ (kind : Kind) (pieces : List PlanPiece) (all : All IsPlanPiece pieces) (form : Form) where
  -- no row is left
  pub none_behind : (w : Walk) → IsWalk kind (map piece_view pieces) w → w.given ≡ w.count → [] ≡ rows_behind form kind (map piece_view pieces) w
  none_behind w walk done =
      let rows : List TimedRow = planned_of kind (map piece_view pieces) in
      let count = planned-count kind pieces all in
      sym (ap (map (written_row form)) (drop_all w.given rows (omega (arith, count, walk.count, done))))

  -- the row that is due, and those behind it
  pub one_behind : (w later : Walk) (d : DueRow) → slice_get (planned_of kind (map piece_view pieces)) w.given ≡ Some (due_view d) → later.given ≡ w.given + 1
      → shown form d ∷ rows_behind form kind (map piece_view pieces) later ≡ rows_behind form kind (map piece_view pieces) w
  one_behind w later d at next =
      let rows : List TimedRow = planned_of kind (map piece_view pieces) in
      ap (λ (n : ℕ). shown form d ∷ map (written_row form) (drop n rows)) next
      ∙ sym (ap (map (written_row form)) (left_is rows w.given (due_view d) at))

-- ---- which row is next

merged_audio : (v a : Row) (vs ws : List Row) → is_before v a ≡ true → writing_order (v ∷ vs) (a ∷ ws) ≡ of_track Audio a ∷ writing_order (v ∷ vs) ws
merged_audio v a vs ws before =
    let n : ℕ = prefix_len (is_before v) ws in
    let more : prefix_len (is_before v) (a ∷ ws) ≡ suc n = (let one : 1 + n ≡ suc n = omega arith in rw before one) in
    ap (λ (m : ℕ). map (of_track Audio) (take m (a ∷ ws)) ++ of_track Video v ∷ writing_order vs (drop m (a ∷ ws))) more

merged_video : (v a : Row) (vs ws : List Row) → is_before v a ≡ false → writing_order (v ∷ vs) (a ∷ ws) ≡ of_track Video v ∷ writing_order vs (a ∷ ws)
merged_video v a vs ws after =
    let none : prefix_len (is_before v) (a ∷ ws) ≡ 0 = rw after refl in
    ap (λ (m : ℕ). map (of_track Audio) (take m (a ∷ ws)) ++ of_track Video v ∷ writing_order vs (drop m (a ∷ ws))) none

pub turn_audio : (form : Form) (v a : DueRow) → audio_first form (shown form v) (shown form a) ≡ true → IsTurn form (Some v) (Some a) Audio a
turn_audio Ts v a before = record { order = λ vs ws. merged_audio (shown Ts v) (shown Ts a) vs ws before }
turn_audio Fmp4 v a before = absurd cc

pub turn_video : (form : Form) (v a : DueRow) → audio_first form (shown form v) (shown form a) ≡ false → IsTurn form (Some v) (Some a) Video v
turn_video Ts v a after = record { order = λ vs ws. merged_video (shown Ts v) (shown Ts a) vs ws after }
turn_video Fmp4 v a after = record { order = λ vs ws. refl }

pub turn_video_alone : (form : Form) (v : DueRow) → IsTurn form (Some v) None Video v
turn_video_alone Ts v = record { order = λ vs ws. refl }
turn_video_alone Fmp4 v = record { order = λ vs ws. refl }

pub turn_audio_alone : (form : Form) (a : DueRow) → IsTurn form None (Some a) Audio a
turn_audio_alone Ts a = record { order = λ vs ws. refl }
turn_audio_alone Fmp4 a = record { order = λ vs ws. refl }

pub none_left : (form : Form) → ordered form [] [] ≡ []
none_left Ts = refl
none_left Fmp4 = refl

-- ---- how many rows there are

merged_length : (video audio : List Row) → length (writing_order video audio) ≡ length video + length audio
merged_length [] audio = let same = length-map audio (of_track Audio) in omega (arith, same)
merged_length (v ∷ video) audio =
    let n = prefix_len (is_before v) audio in
    let rest : List Row = drop n audio in
    let both : length (take n audio) + length rest ≡ length audio = sym (length-append (take n audio) rest) ∙ ap length (take-append-drop n audio) in
    omega (arith, length-append (map (of_track Audio) (take n audio)) (of_track Video v ∷ writing_order video rest), length-map (take n audio) (of_track Audio), merged_length video rest, both)

ordered_length : (form : Form) (video audio : List Row) → length (ordered form video audio) ≡ length video + length audio
ordered_length Ts video audio = merged_length video audio
ordered_length Fmp4 video audio = length-append (map (of_track Video) video) (map (of_track Audio) audio) ∙ ap₂ (λ (a b : ℕ). a + b) (length-map video (of_track Video)) (length-map audio (of_track Audio))

pub rows_count : (form : Form) (pieces : List PlanPiece) → All IsPlanPiece pieces
    → length (ordered_rows form (map piece_view pieces)) ≡ rows_before Video (map piece_view pieces) (length pieces) + rows_before Audio (map piece_view pieces) (length pieces)
rows_count form pieces all =
    let rows : Kind → List TimedRow = λ kind. planned_of kind (map piece_view pieces) in
    let counted : (kind : Kind) → length (map (written_row form) (rows kind)) ≡ rows_before kind (map piece_view pieces) (length pieces) =
    λ kind. length-map (rows kind) (written_row form) ∙ planned-count kind pieces all ∙ ap (rows_before kind (map piece_view pieces)) (length-map pieces piece_view) in
    ordered_length form (map (written_row form) (rows Video)) (map (written_row form) (rows Audio)) ∙ ap₂ (λ (a b : ℕ). a + b) (counted Video) (counted Audio)

-- ---- the rows of both kinds that are left

pub none_rows : (form : Form) (pieces : List PlannedPiece) (p : Pass) → p.video.next ≡ None → p.audio.next ≡ None → rows_left form pieces p ≡ []
none_rows form pieces p e f =
    ap₂ (λ (v a : Option DueRow). ordered form (with_next form v (rows_behind form Video pieces p.video.walk)) (with_next form a (rows_behind form Audio pieces p.audio.walk))) e f
    ∙ none_left form

-- ---- looks

module _ (kind : Kind) (pieces : List PlanPiece) (w : Walk) (walk : IsWalk kind (map piece_view pieces) w) where
  behind_most : behind w ≤ length pieces
  behind_most = go w.cursors refl
    where
      go : (o : Option (TimeCursor × PlaceCursor)) → w.cursors ≡ o → behind w ≤ length pieces
      go None e = let here : behind w ≡ w.piece = rw e refl in omega (arith, here, walk.piece, length-map pieces piece_view)
      go (Some c) e = let within = piece_within kind pieces w c.0 c.1 walk e in let next = behind-some kind pieces w c.0 c.1 walk e in omega (arith, within, next)

  looks_most : looks_of w ≤ 384 * length pieces + 8 * rows_before kind (map piece_view pieces) (length pieces)
  looks_most =
      let count : w.count ≡ rows_before kind (map piece_view pieces) (length pieces) = walk.count ∙ ap (rows_before kind (map piece_view pieces)) (length-map pieces piece_view) in
      omega (arith, behind_most, walk.given, count)

pub looks_bound : (pieces : List PlanPiece) (p : Pass) → IsPass (map piece_view pieces) p
    → looks_for p ≤ 768 * length pieces + 8 * (rows_before Video (map piece_view pieces) (length pieces) + rows_before Audio (map piece_view pieces) (length pieces))
looks_bound pieces p pass = let video = looks_most Video pieces p.video.walk pass.video.walk in let audio = looks_most Audio pieces p.audio.walk pass.audio.walk in omega (arith, video, audio)
