-- What is found of a piece, and its rows.
use Rattle.std.proofs.Common.{◌≡◌, ℕ, zero, suc, ◌+◌, ◌*◌, ◌≤◌, ◌<◌, ◌||◌, Bool, true, false, cond, not, List, [], ◌∷◌, ◌++◌, length, map, All, ℤ, Option, Some, None, Result, refl, sym, ap, ap₂, subst, ◌∙◌, arith}
use Rattle.std.specs.Prelude.{flat_map, is_some, nat_lt, if◌then◌else◌, IfSome}
use Rattle.std.specs.List.{enumerate_from, list_any, position_or_len}
use Rattle.std.specs.Option.{option_map_or}
use Rattle.std.specs.Rc.{rc_value}
use Rattle.std.specs.Result.{result_ok}
use Rattle.std.proofs.Math.Nat.{mul-le-mul_right, suc-mul}
use Rattle.std.proofs.lemmas.Bool.Decides.{nat_tests}
use Rattle.std.proofs.lemmas.List.Elements.{All-nil, All-cons, All-head, All-tail}
use Rattle.vod_types.specs.declared.tracks.Asked.{Asked}
use Rattle.vod_types.specs.declared.tracks.Kind.{Kind}
use Rattle.vod_types.specs.declared.tracks.Kind.TheVariants.{Video, Audio}
use Rattle.vod_types.specs.Tracks.{lead_by, lead_of}
use Rattle.mp4_model.specs.Edits.{Edit}
use Rattle.mp4_model.specs.GoodTracks.{GoodTrack}
use Rattle.mp4_model.specs.Movie.{Movie}
use Rattle.clip_model.specs.declared.Piece.{Piece}
use Rattle.segment_model.specs.Numbered.{rows_between}
use Rattle.segment_model.specs.Rows.{TimedRow, timed_rows}
use Rattle.segment_model.specs.Timeline.{TrackRows, placed, placed_lead, placed_other, rows_of, selected_from, selected_lead, selected_other, timeline, timeline_from}
use Rattle.origin_model.specs.Loaded.{CheckedPiece}
use Rattle.origin_model.specs.Sources.{source_piece, source_track}
use Rattle.origin_model.specs.Writable.{IsSoundIf, IsSoundPiece}
use Rattle.vod_plan.specs.declared.spans.PlanPiece.{PlanPiece}
use Rattle.vod_plan.specs.declared.tracks.AskedTrack.{AskedTrack}
use Rattle.vod_plan.specs.declared.tracks.CheckedTracks.{CheckedTracks}
use Rattle.vod_plan.specs.Looks.{tracks_asked}
use Rattle.vod_plan.specs.Needed.{piece_rows, tracks_found, AreFoundOf, IsFoundFor, IsFoundPiece}
use Rattle.vod_plan.specs.Ranges.{PlannedPiece, RowRange, range_of, range_rows}
use Rattle.vod_plan.specs.Selected.{leading, rows_planned, selected_rows, AreFound, AreSamePieces, AreSameRanges, ArePiecesOf, IsFound, IsKept, IsKeptIn, IsPieceOf, IsRangeIf, IsSamePiece, IsSelected, IsTrackOf}
use Rattle.vod_plan.specs.Spans.{piece_view, rows_in, IsPlanPiece, IsRange}
use Rattle.vod_plan.specs.Tracks.{checked_view, track_in}
use Rattle.vod_plan.proofs.RangeLemmas.{part_length}
use Rattle.vod_plan.proofs.SpotLemmas.{good_range, range_there}

-- ---- an element that passes

pub any_before : {X : Type 0} (test : X → Bool) (xs : List X) → nat_lt (position_or_len test xs) (length xs) ≡ list_any test xs
any_before test [] = refl
any_before test (x ∷ xs) = go (test x) (any_before test xs)
  where
    shift : (n m : ℕ) → nat_lt (1 + n) (suc m) ≡ nat_lt n m
    shift n m = grind (arith, nat_tests)

    go : (b : Bool) → nat_lt (position_or_len test xs) (length xs) ≡ list_any test xs → nat_lt (cond (not b) (1 + position_or_len test xs) 0) (suc (length xs)) ≡ (b || list_any test xs)
    go true later = let least : nat_lt 0 (suc (length xs)) ≡ true = grind (arith, nat_tests) in least
    go false later = shift (position_or_len test xs) (length xs) ∙ later

none_of_none : {X : Type 0} (test : X → Bool) (xs : List X) → length xs ≡ 0 → list_any test xs ≡ false
none_of_none test [] e = refl
none_of_none test (x ∷ xs) e = absurd (omega (arith, e))

good_view : (kind : Kind) (p : PlanPiece) → IsPlanPiece p → IfSome (range_of kind (piece_view p)) IsRange
good_view kind p is = go (range_of kind (piece_view p)) (λ r e. good_range kind p r is e)
  where
    go : (o : Option RowRange) → ((r : RowRange) → o ≡ Some r → IsRange r) → IfSome o IsRange
    go None h = tt
    go (Some r) h = h r refl

pub piece_length : (kind : Kind) (file : ℕ) (p : PlanPiece) → IsPlanPiece p → length (piece_rows kind file (piece_view p)) ≡ rows_in kind (piece_view p)
piece_length kind file p is = part_length kind file (piece_view p) (good_view kind p is)

-- no row of a piece, or one at a number below that of its rows
pub reached_none : (kind : Kind) (test : TimedRow → Bool) (p : PlanPiece) → IsPlanPiece p → rows_in kind (piece_view p) ≡ 0 → false ≡ list_any test (piece_rows kind 0 (piece_view p))
reached_none kind test p is none = sym (none_of_none test (piece_rows kind 0 (piece_view p)) (piece_length kind 0 p is ∙ none))

pub reached_some : (kind : Kind) (test : TimedRow → Bool) (p : PlanPiece) (n m : ℕ) → IsPlanPiece p → ((file : ℕ) (r : RowRange) → range_of kind (piece_view p) ≡ Some r → n ≡ position_or_len test (range_rows kind file p.base r))
    → m ≡ rows_in kind (piece_view p) → 0 < m → nat_lt n m ≡ list_any test (piece_rows kind 0 (piece_view p))
reached_some kind test p n m is count many some =
    let found = range_there kind (piece_view p) (omega (arith, many, some)) in
    let at : n ≡ position_or_len test (piece_rows kind 0 (piece_view p)) =
    count 0 found.0 found.1 ∙ ap (λ (o : Option RowRange). position_or_len test (option_map_or (range_rows kind 0 p.base) o [])) (sym found.1) in
    ap₂ (λ (a : ℕ) (b : ℕ). nat_lt a b) at (many ∙ sym (piece_length kind 0 p is)) ∙ any_before test (piece_rows kind 0 (piece_view p))

-- ---- a piece without a track

from_none : (hi : Option ℤ) (lead : List TimedRow) → selected_from hi lead [] ≡ []
from_none hi [] = refl
from_none hi (first ∷ lead) = refl

bare_lead : (c : CheckedPiece) → c.video ≡ None → c.audio ≡ None → selected_lead (source_piece c) ≡ []
unfolding selected_lead source_piece timed_rows
bare_lead c v a = rw (v, a) refl

bare_other : (c : CheckedPiece) → c.video ≡ None → selected_other (source_piece c) ≡ []
unfolding selected_other source_piece
bare_other c v = rw v (from_none c.piece.hi _)

range_bare : (kind : Kind) (e : Edit) (o : Option GoodTrack) (all : List TimedRow) (q : Option RowRange) → o ≡ None → q ≡ None → all ≡ [] → IsRangeIf kind e o all q
range_bare kind e None all None is none rows = rows
range_bare kind e None all (Some r) is none rows = absurd cc
range_bare kind e (Some t) all None is none rows = absurd cc
range_bare kind e (Some t) all (Some r) is none rows = absurd cc

pub bare_selected : (c : CheckedPiece) (p : PlannedPiece) → c.video ≡ None → c.audio ≡ None → p.video ≡ None → p.audio ≡ None → p.name ≡ c.piece.name → p.base ≡ c.piece.base → IsSelected c p
bare_selected c p v a pv pa name base =
    let leads : leading c ≡ Audio = ap (λ (o : Option GoodTrack). if is_some o then Video else Audio) v in
    record {
      name = name;
      base = base;
      video = range_bare Video c.video_edit c.video (rows_of (leading c) Video (selected_rows c)) p.video v pv (ap (λ (k : Kind). rows_of k Video (selected_rows c)) leads ∙ bare_other c v);
      audio = range_bare Audio c.audio_edit c.audio (rows_of (leading c) Audio (selected_rows c)) p.audio a pa (ap (λ (k : Kind). rows_of k Audio (selected_rows c)) leads ∙ bare_lead c v a);
    }

-- ---- tracks

is_none : {X : Type 0} (o : Option X) → is_some o ≡ false → o ≡ None
is_none None e = refl
is_none (Some x) e = absurd cc

pub bare_tracks : (piece : Piece) (tracks : CheckedTracks) → is_some tracks.video ≡ false → is_some tracks.audio ≡ false → (rc_value tracks.meta).name ≡ piece.name
    → IsSelected (checked_view piece tracks) (record { name = (rc_value tracks.meta).name; base = piece.base; video = None; audio = None })
bare_tracks piece tracks v a named =
    let m = (rc_value tracks.meta).movie in
    bare_selected (checked_view piece tracks) (record { name = (rc_value tracks.meta).name; base = piece.base; video = None; audio = None })
    (ap (track_in m) (is_none tracks.video v)) (ap (track_in m) (is_none tracks.audio a)) refl refl named refl

some_same : (m : Movie) (kind : Kind) (number : Option ℕ) (a : Option AskedTrack) → IsSoundIf kind number (track_in m a) → IfSome a (IsFound m) → is_some a ≡ is_some number
some_same m kind None None sound found = refl
some_same m kind None (Some a) sound found = absurd (subst (IsSoundIf kind None) (ap (λ (r : Result GoodTrack _). result_ok r) found.is) sound)
some_same m kind (Some n) None sound found = absurd sound
some_same m kind (Some n) (Some a) sound found = refl

-- as many are found as are asked
pub tracks_same : (asked : Asked) (piece : Piece) (tracks : CheckedTracks) → IsSoundPiece asked (checked_view piece tracks) → AreFound tracks → tracks_found tracks ≡ tracks_asked asked
tracks_same asked piece tracks sound found =
    let m = (rc_value tracks.meta).movie in
    ap₂ (λ (v : Bool) (a : Bool). (if v then 1 else 0) + (if a then 1 else 0)) (some_same m Video asked.video tracks.video sound.video found.video) (some_same m Audio asked.audio tracks.audio sound.audio found.audio)

track_if : (kind : Kind) (e : Edit) (o : Option GoodTrack) (all : List TimedRow) (q : Option RowRange) → IsRangeIf kind e o all q → IsTrackOf o q
track_if kind e None all None h = tt
track_if kind e None all (Some r) h = h
track_if kind e (Some t) all None h = h
track_if kind e (Some t) all (Some r) h = h.track

kept_if : (kind : Kind) (e : Edit) (o : Option GoodTrack) (all : List TimedRow) (q : Option RowRange) → IsRangeIf kind e o all q → IfSome q (IsKept kind)
kept_if kind e None all None h = tt
kept_if kind e None all (Some r) h = absurd h
kept_if kind e (Some t) all None h = absurd h
kept_if kind e (Some t) all (Some r) h = h.kept

pub kept_in : (kind : Kind) (c : CheckedPiece) (p : PlannedPiece) → IsSelected c p → IsKeptIn kind p
kept_in Video c p s = kept_if Video c.video_edit c.video (rows_of (leading c) Video (selected_rows c)) p.video s.video
kept_in Audio c p s = kept_if Audio c.audio_edit c.audio (rows_of (leading c) Audio (selected_rows c)) p.audio s.audio

-- the file and the tracks of a piece that was checked
pub found_piece : (piece : Piece) (tracks : CheckedTracks) (p : PlanPiece) → rc_value p.meta ≡ rc_value tracks.meta → IsSelected (checked_view piece tracks) (piece_view p) → IsFoundPiece (checked_view piece tracks) p
found_piece piece tracks p meta s =
    let c = checked_view piece tracks in
    record {
      of = record {
        name = s.name;
        size = ap (λ h. h.movie.place.file_size) meta;
        video = track_if Video c.video_edit c.video (rows_of (leading c) Video (selected_rows c)) (piece_view p).video s.video;
        audio = track_if Audio c.audio_edit c.audio (rows_of (leading c) Audio (selected_rows c)) (piece_view p).audio s.audio;
      };
      selected = s;
    }

-- ---- the lead track

pub leading_asked : (asked : Asked) (c : CheckedPiece) → IsSoundPiece asked c → leading c ≡ lead_of asked
leading_asked asked c sound = go asked.video c.video sound.video
  where
    go : (number : Option ℕ) (o : Option GoodTrack) → IsSoundIf Video number o → (if is_some o then Video else Audio) ≡ lead_by number
    go None None h = refl
    go None (Some t) h = absurd h
    go (Some n) None h = absurd h
    go (Some n) (Some t) h = refl

-- a piece with a lead row has an asked track
pub some_asked : (asked : Asked) (c : CheckedPiece) (p : PlannedPiece) → IsSoundPiece asked c → IsSelected c p → 0 < rows_in (lead_of asked) p → 1 ≤ tracks_asked asked
some_asked asked c p sound s some = go asked.video asked.audio c.video c.audio sound.video sound.audio p.video p.audio s.audio some
  where
    go : (v a : Option ℕ) (cv ca : Option GoodTrack) → IsSoundIf Video v cv → IsSoundIf Audio a ca → (pv pa : Option RowRange) → IsRangeIf Audio c.audio_edit ca (rows_of (leading c) Audio (selected_rows c)) pa
        → 0 < rows_in (lead_by v) (record { name = p.name; base = p.base; video = pv; audio = pa }) → 1 ≤ (if is_some v then 1 else 0) + (if is_some a then 1 else 0)
    go None None cv None h i pv None r some = absurd (omega (arith, some))
    go None None cv None h i pv (Some q) r some = absurd r
    go None None cv (Some t) h i pv pa r some = absurd i
    go None (Some n) cv ca h i pv pa r some = omega arith
    go (Some m) None cv ca h i pv pa r some = omega arith
    go (Some m) (Some n) cv ca h i pv pa r some = omega arith

-- ---- rows

rows_if : (kind : Kind) (e : Edit) (o : Option GoodTrack) (all : List TimedRow) (q : Option RowRange) (file : ℕ) (base : ℤ) → IsRangeIf kind e o all q → option_map_or (range_rows kind file base) q [] ≡ map (placed file base) all
rows_if kind e None all None file base h = ap (map (placed file base)) (sym h)
rows_if kind e None all (Some r) file base h = absurd h
rows_if kind e (Some t) all None file base h = absurd h
rows_if kind e (Some t) all (Some r) file base h =
    ap (map (placed file base)) (ap₂ (λ (d : Edit) (u : GoodTrack). rows_between (source_track kind d (Some u)) r.from r.to) h.edit h.track ∙ h.rows)

source_base : (c : CheckedPiece) → (source_piece c).base ≡ c.piece.base
unfolding source_piece
source_base c = refl

pub piece_is : (kind : Kind) (c : CheckedPiece) (p : PlannedPiece) (file : ℕ) → IsSelected c p → piece_rows kind file p ≡ map (placed file (source_piece c).base) (rows_of (leading c) kind (selected_rows c))
piece_is Video c p file s =
    rows_if Video c.video_edit c.video (rows_of (leading c) Video (selected_rows c)) p.video file p.base s.video
    ∙ ap (λ (base : ℤ). map (placed file base) (rows_of (leading c) Video (selected_rows c))) (s.base ∙ sym (source_base c))
piece_is Audio c p file s =
    rows_if Audio c.audio_edit c.audio (rows_of (leading c) Audio (selected_rows c)) p.audio file p.base s.audio
    ∙ ap (λ (base : ℤ). map (placed file base) (rows_of (leading c) Audio (selected_rows c))) (s.base ∙ sym (source_base c))

rows_lead : (kind : Kind) (rows : TrackRows) → rows_of kind kind rows ≡ rows.lead
rows_lead Video rows = refl
rows_lead Audio rows = refl

-- those of the lead track
pub lead_is : (kind : Kind) (c : CheckedPiece) (p : PlannedPiece) (file : ℕ) → IsSelected c p → leading c ≡ kind → piece_rows kind file p ≡ placed_lead file (source_piece c)
lead_is kind c p file s is =
    piece_is kind c p file s
    ∙ ap (λ (k : Kind). map (placed file (source_piece c).base) (rows_of k kind (selected_rows c))) is
    ∙ ap (map (placed file (source_piece c).base)) (rows_lead kind (selected_rows c))

-- ---- of several pieces

abbrev placed_rows : ℕ → CheckedPiece → TrackRows
placed_rows file c = record { lead = placed_lead file (source_piece c); other = placed_other file (source_piece c) }

rows_placed : (lead kind : Kind) (file : ℕ) (c : CheckedPiece) → map (placed file (source_piece c).base) (rows_of lead kind (selected_rows c)) ≡ rows_of lead kind (placed_rows file c)
rows_placed Video Video file c = refl
rows_placed Video Audio file c = refl
rows_placed Audio Video file c = refl
rows_placed Audio Audio file c = refl

rows_none : (lead kind : Kind) → [] ≡ rows_of lead kind (record { lead = []; other = [] })
rows_none Video Video = refl
rows_none Video Audio = refl
rows_none Audio Video = refl
rows_none Audio Audio = refl

rows_joined : (lead kind : Kind) (a b : TrackRows) → rows_of lead kind a ++ rows_of lead kind b ≡ rows_of lead kind (record { lead = a.lead ++ b.lead; other = a.other ++ b.other })
rows_joined Video Video a b = refl
rows_joined Video Audio a b = refl
rows_joined Audio Video a b = refl
rows_joined Audio Audio a b = refl

abbrev rows_from : Kind → ℕ → List PlanPiece → List TimedRow
rows_from kind file ps = flat_map (λ (e : ℕ × PlannedPiece). piece_rows kind e.0 e.1) (enumerate_from file (map piece_view ps))

kind_joined : (asked : Asked) (kind : Kind) (file : ℕ) (cs : List CheckedPiece) (ps : List PlanPiece) → All (IsSoundPiece asked) cs → AreFoundOf cs ps
    → rows_from kind file ps ≡ rows_of (lead_of asked) kind (timeline_from file (map source_piece cs))
kind_joined asked kind file [] [] sound are = rows_none (lead_of asked) kind
kind_joined asked kind file [] (p ∷ ps) sound are = absurd are
kind_joined asked kind file (c ∷ cs) [] sound are = absurd are
kind_joined asked kind file (c ∷ cs) (p ∷ ps) sound are =
    let leads = leading_asked asked c (All-head (IsSoundPiece asked) c cs sound) in
    let first : piece_rows kind file (piece_view p) ≡ rows_of (lead_of asked) kind (placed_rows file c) =
    piece_is kind c (piece_view p) file are.0.selected
    ∙ ap (λ (k : Kind). map (placed file (source_piece c).base) (rows_of k kind (selected_rows c))) leads
    ∙ rows_placed (lead_of asked) kind file c in
    let next : file + 1 ≡ suc file = omega arith in
    ap₂ (λ (xs : List TimedRow) (ys : List TimedRow). xs ++ ys) first
    (ap (λ (n : ℕ). rows_from kind n ps) next ∙ kind_joined asked kind (suc file) cs ps (All-tail (IsSoundPiece asked) c cs sound) are.1)
    ∙ rows_joined (lead_of asked) kind (placed_rows file c) (timeline_from (suc file) (map source_piece cs))

-- the rows of all pieces are those of the timeline
pub found_rows : (asked : Asked) (cs : List CheckedPiece) (ps : List PlanPiece) → All (IsSoundPiece asked) cs → AreFoundOf cs ps → rows_planned (lead_of asked) (map piece_view ps) ≡ timeline (map source_piece cs)
found_rows asked cs ps sound are = go (lead_of asked) (λ kind. kind_joined asked kind 0 cs ps sound are)
  where
    go : (lead : Kind) → ((kind : Kind) → rows_from kind 0 ps ≡ rows_of lead kind (timeline (map source_piece cs))) → rows_planned lead (map piece_view ps) ≡ timeline (map source_piece cs)
    go Video h = ap₂ (λ (a : List TimedRow) (b : List TimedRow). record { lead = a; other = b }) (h Video) (h Audio)
    go Audio h = ap₂ (λ (a : List TimedRow) (b : List TimedRow). record { lead = a; other = b }) (h Audio) (h Video)

pub found_count : (cs : List CheckedPiece) (ps : List PlanPiece) → AreFoundOf cs ps → length cs ≡ length ps
found_count [] [] are = refl
found_count [] (p ∷ ps) are = absurd are
found_count (c ∷ cs) [] are = absurd are
found_count (c ∷ cs) (p ∷ ps) are = ap suc (found_count cs ps are.1)

pub found_kept : (kind : Kind) (cs : List CheckedPiece) (ps : List PlanPiece) → AreFoundOf cs ps → All (λ p. IsKeptIn kind (piece_view p)) ps
found_kept kind [] [] are = All-nil (λ p. IsKeptIn kind (piece_view p))
found_kept kind [] (p ∷ ps) are = absurd are
found_kept kind (c ∷ cs) [] are = absurd are
found_kept kind (c ∷ cs) (p ∷ ps) are = All-cons (λ p. IsKeptIn kind (piece_view p)) p ps (kept_in kind c (piece_view p) are.0.selected) (found_kept kind cs ps are.1)

pub found_more : (cs : List CheckedPiece) (ps : List PlanPiece) (c : CheckedPiece) (p : PlanPiece) → AreFoundOf cs ps → IsFoundPiece c p → AreFoundOf (cs ++ c ∷ []) (ps ++ p ∷ [])
found_more [] [] c p are is = (is, tt)
found_more [] (q ∷ ps) c p are is = absurd are
found_more (d ∷ cs) [] c p are is = absurd are
found_more (d ∷ cs) (q ∷ ps) c p are is = (are.0, found_more cs ps c p are.1 is)

-- ---- where rows of them were cut off

same_track : (o : Option GoodTrack) (r s : Option RowRange) → IsTrackOf o r → AreSameRanges r s → IsTrackOf o s
same_track None None None h same = tt
same_track None None (Some s) h same = absurd same
same_track None (Some r) s h same = absurd h
same_track (Some t) None s h same = absurd h
same_track (Some t) (Some r) None h same = absurd same
same_track (Some t) (Some r) (Some s) h same = sym same.track ∙ h

same_piece : (c : CheckedPiece) (p q : PlanPiece) → IsPieceOf c p → IsSamePiece p q → IsPieceOf c q
same_piece c p q is same = record {
  name = ap (λ h. h.name) (sym same.meta) ∙ is.name;
  size = ap (λ h. h.movie.place.file_size) (sym same.meta) ∙ is.size;
  video = same_track c.video (piece_view p).video (piece_view q).video is.video same.video;
  audio = same_track c.audio (piece_view p).audio (piece_view q).audio is.audio same.audio;
}

pub same_pieces : (cs : List CheckedPiece) (ps qs : List PlanPiece) → AreFoundOf cs ps → AreSamePieces ps qs → ArePiecesOf cs qs
same_pieces [] [] [] are same = tt
same_pieces [] [] (q ∷ qs) are same = absurd same
same_pieces [] (p ∷ ps) qs are same = absurd are
same_pieces (c ∷ cs) [] qs are same = absurd are
same_pieces (c ∷ cs) (p ∷ ps) [] are same = absurd same
same_pieces (c ∷ cs) (p ∷ ps) (q ∷ qs) are same = (same_piece c p q are.0.of same.0, same_pieces cs ps qs are.1 same.1)

pub same_count : (ps qs : List PlanPiece) → AreSamePieces ps qs → length qs ≡ length ps
same_count [] [] same = refl
same_count [] (q ∷ qs) same = absurd same
same_count (p ∷ ps) [] same = absurd same
same_count (p ∷ ps) (q ∷ qs) same = ap suc (same_count ps qs same.1)

-- ---- looks at tables

within : (s old x y : ℕ) → x ≤ y → s ≤ old + 1280 * x → s ≤ old + 1280 * y
within s old x y h i = omega (arith, h, i)

one_more : (s s₁ s₂ old x t y : ℕ) → s ≤ old + 1280 * x → s₁ ≤ s + 1024 * t → s₂ ≤ s₁ + 256 * t → y ≡ x + t → s₂ ≤ old + 1280 * y
one_more s s₁ s₂ old x t y h i j e = omega (arith, h, i, j, e)

pub looks_within : (s old n m t : ℕ) → n ≤ m → s ≤ old + 1280 * (n * t) → s ≤ old + 1280 * (m * t)
looks_within s old n m t h i = within s old (n * t) (m * t) (mul-le-mul_right t h) i

pub looks_more : (s s₁ s₂ old n m t : ℕ) → s ≤ old + 1280 * (n * t) → s₁ ≤ s + 1024 * t → s₂ ≤ s₁ + 256 * t → n + 1 ≤ m → s₂ ≤ old + 1280 * (m * t)
looks_more s s₁ s₂ old n m t h i j less =
    let next : suc n ≤ m = omega (arith, less) in
    looks_within s₂ old (suc n) m t next (one_more s s₁ s₂ old (n * t) t (suc n * t) h i j (suc-mul n t))

pub no_looks : (s x : ℕ) → s ≤ s + 1280 * x
no_looks s x = omega arith

pub not_reached : (s t : ℕ) → s ≤ s + 256 * t
not_reached s t = omega arith

-- none where no track is asked
pub reach_looks : (asked : Asked) (piece : Piece) (p : PlanPiece) (kind : Kind) (s s₁ : ℕ) → kind ≡ lead_of asked → IsFoundFor asked piece p → s₁ ≤ s + 256 → (rows_in kind (piece_view p) ≡ 0 → s₁ ≤ s) → s₁ ≤ s + 256 * tracks_asked asked
reach_looks asked piece p kind s s₁ leads is most none = go (rows_in (lead_of asked) (piece_view p)) (tracks_asked asked) (some_asked asked is.checked_piece (piece_view p) is.sound is.found.selected)
    (λ e. none (ap (λ (k : Kind). rows_in k (piece_view p)) leads ∙ e))
  where
    go : (n t : ℕ) → (0 < n → 1 ≤ t) → (n ≡ 0 → s₁ ≤ s) → s₁ ≤ s + 256 * t
    go zero t some none = let least = none refl in omega (arith, least)
    go (suc n) t some none = let one : 1 ≤ t = some (omega arith) in omega (arith, one, most)
