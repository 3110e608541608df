-- Pieces that stay sound and the same while their ranges are narrowed.
use Rattle.std.proofs.Common.{◌≡◌, ℕ, zero, suc, ◌+◌, ◌-◌, ◌<◌, ◌≤◌, List, [], ◌∷◌, ◌++◌, length, take, drop, set, get_or, Option, Some, None, refl, sym, ap, subst, ◌∙◌, arith}
use Rattle.std.specs.Prelude.{map, option_map, option_and_then, IfSome, All}
use Rattle.std.specs.List.{AllByRecursion}
use Rattle.std.specs.Option.{option_map_or}
use Rattle.std.proofs.lemmas.List.{drop-map, length-map, map-set}
use Rattle.std.specs.Rc.{rc_value}
use Rattle.std.specs.Result.{result_ok}
use Rattle.vod_types.specs.declared.tracks.Kind.{Kind}
use Rattle.vod_types.specs.declared.tracks.Kind.TheVariants.{Video, Audio}
use Rattle.mp4_model.specs.GoodTracks.{GoodTrack, track_view}
use Rattle.mp4_model.specs.Movie.{Movie}
use Rattle.vod_plan.specs.declared.spans.PlanPiece.{PlanPiece}
use Rattle.vod_plan.specs.declared.spans.RowSpan.{RowSpan}
use Rattle.vod_plan.specs.Narrowed.{narrow_range, narrow_span, narrowed, IsSound}
use Rattle.vod_plan.specs.Ranges.{PlannedPiece, RowRange, range_of}
use Rattle.vod_plan.specs.Selected.{AreSamePieces, AreSameRanges, IsKept, IsKeptIn, IsSamePiece}
use Rattle.vod_plan.specs.Spans.{piece_view, range_in, range_with, rows_in, AreRangesIn, IsPlanPiece, IsRange, IsRangeIn}
use Rattle.vod_plan.proofs.JoinLemmas.{changed, changed_all, drop_item}
use Rattle.vod_plan.proofs.RangeLemmas.{IsGood, all_good}
use Rattle.vod_plan.proofs.SpotLemmas.{good_range}

-- ---- the same pieces

ranges-refl : (o : Option RowRange) → AreSameRanges o o
ranges-refl None = tt
ranges-refl (Some r) = record { track = refl; edit = refl }

ranges-trans : (a b c : Option RowRange) → AreSameRanges a b → AreSameRanges b c → AreSameRanges a c
ranges-trans None None None h k = tt
ranges-trans None None (Some t) h k = absurd k
ranges-trans None (Some s) c h k = absurd h
ranges-trans (Some r) None c h k = absurd h
ranges-trans (Some r) (Some s) None h k = absurd k
ranges-trans (Some r) (Some s) (Some t) h k = record { track = h.track ∙ k.track; edit = h.edit ∙ k.edit }

piece-refl : (p : PlanPiece) → IsSamePiece p p
piece-refl p = record { meta = refl; base = refl; video = ranges-refl (piece_view p).video; audio = ranges-refl (piece_view p).audio }

piece-trans : (p q r : PlanPiece) → IsSamePiece p q → IsSamePiece q r → IsSamePiece p r
piece-trans p q r h k = record {
  meta = h.meta ∙ k.meta;
  base = h.base ∙ k.base;
  video = ranges-trans (piece_view p).video (piece_view q).video (piece_view r).video h.video k.video;
  audio = ranges-trans (piece_view p).audio (piece_view q).audio (piece_view r).audio h.audio k.audio;
}

pub pieces-refl : (ps : List PlanPiece) → AreSamePieces ps ps
pieces-refl [] = tt
pieces-refl (p ∷ ps) = (piece-refl p, pieces-refl ps)

pub pieces-trans : (ps qs rs : List PlanPiece) → AreSamePieces ps qs → AreSamePieces qs rs → AreSamePieces ps rs
pieces-trans [] [] [] h k = tt
pieces-trans [] [] (r ∷ rs) h k = absurd k
pieces-trans [] (q ∷ qs) rs h k = absurd h
pieces-trans (p ∷ ps) [] rs h k = absurd h
pieces-trans (p ∷ ps) (q ∷ qs) [] h k = absurd k
pieces-trans (p ∷ ps) (q ∷ qs) (r ∷ rs) h k = (piece-trans p q r h.0 k.0, pieces-trans ps qs rs h.1 k.1)

pub pieces-set : (ps qs : List PlanPiece) (i : ℕ) (q r : PlanPiece) → AreSamePieces ps qs → i < length qs → q ≡ get_or qs i q → IsSamePiece q r → AreSamePieces ps (set qs i r)
pieces-set [] [] i q r h lt e k = absurd (omega arith)
pieces-set [] (x ∷ qs) i q r h lt e k = absurd h
pieces-set (p ∷ ps) [] i q r h lt e k = absurd h
pieces-set (p ∷ ps) (x ∷ qs) zero q r h lt e k = (piece-trans p x r h.0 (subst (λ (y : PlanPiece). IsSamePiece y r) e k), h.1)
pieces-set (p ∷ ps) (x ∷ qs) (suc i) q r h lt e k = (h.0, pieces-set ps qs i q r h.1 (omega arith) e k)

-- ---- the views of pieces that are gone through

pub view_item : (ps : List PlanPiece) (i : ℕ) (p : PlanPiece) → i < length ps → p ≡ get_or ps i p → drop i (map piece_view ps) ≡ piece_view p ∷ drop (i + 1) (map piece_view ps)
view_item ps i p lt e =
    drop-map piece_view i ps
    ∙ ap (map piece_view) (drop_item ps i p lt e)
    ∙ ap (λ (vs : List PlannedPiece). piece_view p ∷ vs) (sym (drop-map piece_view (i + 1) ps))

-- One step on: a piece is changed, and the others will be.
pub view_step : (F G : List PlannedPiece → List PlannedPiece) (ps : List PlanPiece) (i : ℕ) (p q : PlanPiece) → i < length ps → p ≡ get_or ps i p
    → ((vs : List PlannedPiece) → F (piece_view p ∷ vs) ≡ piece_view q ∷ G vs)
    → take (i + 1) (map piece_view (set ps i q)) ++ G (drop (i + 1) (map piece_view (set ps i q))) ≡ take i (map piece_view ps) ++ F (drop i (map piece_view ps))
view_step F G ps i p q lt e f =
    let views : List PlannedPiece = map piece_view ps in
    ap (λ (vs : List PlannedPiece). take (i + 1) vs ++ G (drop (i + 1) vs)) (map-set piece_view ps i q)
    ∙ sym (changed F G views i (piece_view q) (omega (arith, lt, length-map ps piece_view)) (ap F (view_item ps i p lt e) ∙ f (drop (i + 1) views)))

pub view_all : (F : List PlannedPiece → List PlannedPiece) (ps : List PlanPiece) (i : ℕ) → F [] ≡ [] → length ps ≤ i → take i (map piece_view ps) ++ F (drop i (map piece_view ps)) ≡ map piece_view ps
view_all F ps i e le = changed_all F (map piece_view ps) i e (omega (arith, le, length-map ps piece_view))

-- ---- sound pieces

pub sound_pieces : (ps : List PlanPiece) → All IsSound ps → All IsPlanPiece ps
sound_pieces ps all = λ i d h. (all i d h).piece

pub sound_views : (kind : Kind) (ps : List PlanPiece) → All IsSound ps → AllByRecursion (IsGood kind) (map piece_view ps)
sound_views kind ps all = all_good kind ps (sound_pieces ps all)

pub sound_kept : (kind : Kind) (p : PlanPiece) → IsSound p → IsKeptIn kind (piece_view p)
sound_kept Video p s = s.video
sound_kept Audio p s = s.audio

pub good_view : (kind : Kind) (p : PlanPiece) → IsPlanPiece p → IsGood kind (piece_view p)
good_view kind p is = go (range_of kind (piece_view p)) (λ r e. good_range kind p r is e)
  where
    go : (o : Option RowRange) → ((r : RowRange) → o ≡ Some r → IsRange r) → IfSome o IsRange
    go None h = tt
    go (Some r) h = h r refl

pub good_part : (kind : Kind) (p : PlanPiece) → IsSound p → IsGood kind (piece_view p)
good_part kind p s = good_view kind p s.piece

pub all_sound : (ps : List PlanPiece) → All IsPlanPiece ps → All (λ p. IsKeptIn Video (piece_view p)) ps → All (λ p. IsKeptIn Audio (piece_view p)) ps → All IsSound ps
all_sound ps pieces video audio = λ i d h. record { piece = pieces i d h; video = video i d h; audio = audio i d h }

pub sound_at : (ps : List PlanPiece) (i : ℕ) (p : PlanPiece) → All IsSound ps → i < length ps → p ≡ get_or ps i p → IsSound p
sound_at ps i p all lt e = subst IsSound (sym e) (all i p lt)

pub sound_piece : (ps : List PlanPiece) (i : ℕ) (p : PlanPiece) → All IsPlanPiece ps → i < length ps → p ≡ get_or ps i p → IsPlanPiece p
sound_piece ps i p all lt e = subst IsPlanPiece (sym e) (all i p lt)

-- ---- a narrowed piece

narrow_in : (m : Movie) (s : RowSpan) (from to : ℕ) → range_in m (narrow_span from to s) ≡ option_map (narrow_range from to) (range_in m s)
narrow_in m s from to = go (result_ok (track_view m.tracks s.track))
  where
    go : (o : Option GoodTrack) → option_map (range_with (narrow_span from to s)) o ≡ option_map (narrow_range from to) (option_map (range_with s) o)
    go None = refl
    go (Some t) = refl

narrow_some : (m : Movie) (o : Option RowSpan) (s : RowSpan) (from to : ℕ) → o ≡ Some s → option_and_then (range_in m) (Some (narrow_span from to s)) ≡ option_map (narrow_range from to) (option_and_then (range_in m) o)
narrow_some m o s from to e = narrow_in m s from to ∙ ap (λ (x : Option RowSpan). option_map (narrow_range from to) (option_and_then (range_in m) x)) (sym e)

narrow_good : (r : RowRange) (from to : ℕ) → IsRange r → from ≤ r.to - r.from → to ≤ r.to - r.from → IsRange (narrow_range from to r)
narrow_good r from to is h k = record {
  usable = is.usable;
  from = omega arith;
  to = omega (arith, is.from, is.to, h, k);
  delay = is.delay;
  skip = is.skip;
}

narrow_ranges : (m : Movie) (s : RowSpan) (from to : ℕ) → IsRangeIn m s → from ≤ option_map_or (λ (r : RowRange). r.to - r.from) (range_in m s) 0 → to ≤ option_map_or (λ (r : RowRange). r.to - r.from) (range_in m s) 0 → IsRangeIn m (narrow_span from to s)
narrow_ranges m s from to is h k =
    let count : option_map_or (λ (r : RowRange). r.to - r.from) (range_in m s) 0 ≡ is.range.to - is.range.from = ap (λ (o : Option RowRange). option_map_or (λ (r : RowRange). r.to - r.from) o 0) is.is in
    record {
      range = narrow_range from to is.range;
      is = narrow_in m s from to ∙ ap (option_map (narrow_range from to)) is.is;
      good = narrow_good is.range from to is.good (omega (arith, h, count)) (omega (arith, k, count));
    }

narrow_kept : (kind : Kind) (o : Option RowRange) (from to : ℕ) → IfSome o (IsKept kind) → IfSome (option_map (narrow_range from to) o) (IsKept kind)
narrow_kept kind None from to h = tt
narrow_kept kind (Some r) from to h = omega (arith, h)

narrow_same : (o : Option RowRange) (from to : ℕ) → AreSameRanges o (option_map (narrow_range from to) o)
narrow_same None from to = tt
narrow_same (Some r) from to = record { track = refl; edit = refl }

-- with another span of video
abbrev pub with_video : PlanPiece → RowSpan → PlanPiece
with_video p s = record { meta = p.meta; base = p.base; video = Some s; audio = p.audio }

abbrev pub with_audio : PlanPiece → RowSpan → PlanPiece
with_audio p s = record { meta = p.meta; base = p.base; video = p.video; audio = Some s }

module _ (p : PlanPiece) (s : RowSpan) (from to : ℕ) where
  abbrev movie : Movie
  movie = (rc_value p.meta).movie

  module _ (is : p.video ≡ Some s) where
    video_range : (piece_view (with_video p (narrow_span from to s))).video ≡ option_map (narrow_range from to) (piece_view p).video
    video_range = narrow_some movie p.video s from to is

    pub video_view : piece_view (with_video p (narrow_span from to s)) ≡ narrowed Video from to (piece_view p)
    video_view = ap (λ (o : Option RowRange). record { name = (rc_value p.meta).name; base = p.base; video = o; audio = (piece_view p).audio }) video_range

    pub video_sound : IsSound p → from ≤ rows_in Video (piece_view p) → to ≤ rows_in Video (piece_view p) → IsSound (with_video p (narrow_span from to s))
    video_sound sound h k =
        let rows : rows_in Video (piece_view p) ≡ option_map_or (λ (r : RowRange). r.to - r.from) (range_in movie s) 0 = ap (λ (o : Option RowSpan). option_map_or (λ (r : RowRange). r.to - r.from) (option_and_then (range_in movie) o) 0) is in
        record {
          piece = record {
            base = sound.piece.base;
            video = narrow_ranges movie s from to (subst (AreRangesIn movie) is sound.piece.video) (omega (arith, h, rows)) (omega (arith, k, rows));
            audio = sound.piece.audio;
          };
          video = subst (λ (o : Option RowRange). IfSome o (IsKept Video)) (sym video_range) (narrow_kept Video (piece_view p).video from to sound.video);
          audio = sound.audio;
        }

    pub video_same : IsSamePiece p (with_video p (narrow_span from to s))
    video_same = record {
      meta = refl;
      base = refl;
      video = subst (AreSameRanges (piece_view p).video) (sym video_range) (narrow_same (piece_view p).video from to);
      audio = ranges-refl (piece_view p).audio;
    }

  module _ (is : p.audio ≡ Some s) where
    audio_range : (piece_view (with_audio p (narrow_span from to s))).audio ≡ option_map (narrow_range from to) (piece_view p).audio
    audio_range = narrow_some movie p.audio s from to is

    pub audio_view : piece_view (with_audio p (narrow_span from to s)) ≡ narrowed Audio from to (piece_view p)
    audio_view = ap (λ (o : Option RowRange). record { name = (rc_value p.meta).name; base = p.base; video = (piece_view p).video; audio = o }) audio_range

    pub audio_sound : IsSound p → from ≤ rows_in Audio (piece_view p) → to ≤ rows_in Audio (piece_view p) → IsSound (with_audio p (narrow_span from to s))
    audio_sound sound h k =
        let rows : rows_in Audio (piece_view p) ≡ option_map_or (λ (r : RowRange). r.to - r.from) (range_in movie s) 0 = ap (λ (o : Option RowSpan). option_map_or (λ (r : RowRange). r.to - r.from) (option_and_then (range_in movie) o) 0) is in
        record {
          piece = record {
            base = sound.piece.base;
            video = sound.piece.video;
            audio = narrow_ranges movie s from to (subst (AreRangesIn movie) is sound.piece.audio) (omega (arith, h, rows)) (omega (arith, k, rows));
          };
          video = sound.video;
          audio = subst (λ (o : Option RowRange). IfSome o (IsKept Audio)) (sym audio_range) (narrow_kept Audio (piece_view p).audio from to sound.audio);
        }

    pub audio_same : IsSamePiece p (with_audio p (narrow_span from to s))
    audio_same = record {
      meta = refl;
      base = refl;
      video = ranges-refl (piece_view p).video;
      audio = subst (AreSameRanges (piece_view p).audio) (sym audio_range) (narrow_same (piece_view p).audio from to);
    }

  -- without rows of the kind nothing changes
  none_narrowed : (o : Option RowSpan) → o ≡ None → option_and_then (range_in movie) o ≡ option_map (narrow_range from to) (option_and_then (range_in movie) o)
  none_narrowed None e = refl
  none_narrowed (Some x) e = cc

  pub none_video : p.video ≡ None → piece_view p ≡ narrowed Video from to (piece_view p)
  none_video is = ap (λ (o : Option RowRange). record { name = (rc_value p.meta).name; base = p.base; video = o; audio = (piece_view p).audio }) (none_narrowed p.video is)

  pub none_audio : p.audio ≡ None → piece_view p ≡ narrowed Audio from to (piece_view p)
  none_audio is = ap (λ (o : Option RowRange). record { name = (rc_value p.meta).name; base = p.base; video = (piece_view p).video; audio = o }) (none_narrowed p.audio is)

pub same_piece : (p : PlanPiece) → IsSamePiece p p
same_piece p = piece-refl p
