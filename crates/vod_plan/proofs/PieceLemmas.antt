-- Pieces of a plan and the checked pieces that they are of.
use Rattle.std.proofs.Common.{◌≡◌, ℕ, List, [], ◌∷◌, All, Option, Some, None, refl, sym, ap, ◌∙◌}
use Rattle.std.specs.Prelude.{is_some, option_and_then}
use Rattle.std.specs.List.{AllByRecursion}
use Rattle.std.specs.Rc.{rc_value}
use Rattle.std.proofs.lemmas.List.Elements.{All-nil, All-cons, All-head, All-tail}
use Rattle.vod_types.specs.declared.tracks.Asked.{Asked}
use Rattle.vod_types.specs.declared.tracks.Kind.TheVariants.{Video}
use Rattle.mp4_model.specs.GoodTracks.{GoodTrack}
use Rattle.mp4_model.specs.Movie.{Movie}
use Rattle.vod_meta.specs.Held.{HeldMovie}
use Rattle.origin_model.specs.Loaded.{CheckedPiece}
use Rattle.origin_model.specs.Writable.{IsSoundIf, IsSoundPiece}
use Rattle.origin_model.proofs.TestedLists.{all_of}
use Rattle.vod_plan.specs.declared.spans.PlanPiece.{PlanPiece}
use Rattle.vod_plan.specs.declared.spans.RowSpan.{RowSpan}
use Rattle.vod_plan.specs.Ranges.{RowRange}
use Rattle.vod_plan.specs.RowFaults.{AreTyped}
use Rattle.vod_plan.specs.Selected.{ArePiecesOf, AreSamePieces, AreSameRanges, IsPieceOf, IsSamePiece, IsTrackOf}
use Rattle.vod_plan.specs.Spans.{piece_view, range_in, AreRangesIn, IsPlanPiece}

-- ---- a video track is there if one is asked

span_there : (m : Movie) (o : Option RowSpan) → AreRangesIn m o → is_some (option_and_then (range_in m) o) ≡ is_some o
span_there m None is = refl
span_there m (Some s) is = ap (λ (r : Option RowRange). is_some r) is.is

track_there : (o : Option GoodTrack) (r : Option RowRange) → IsTrackOf o r → is_some r ≡ is_some o
track_there None None is = refl
track_there None (Some r) is = absurd is
track_there (Some t) None is = absurd is
track_there (Some t) (Some r) is = refl

asked_there : (number : Option ℕ) (t : Option GoodTrack) → IsSoundIf Video number t → is_some t ≡ is_some number
asked_there None None is = refl
asked_there None (Some t) is = absurd is
asked_there (Some n) None is = absurd is
asked_there (Some n) (Some t) is = refl

typed_piece : (asked : Asked) (c : CheckedPiece) (p : PlanPiece) → IsPieceOf c p → IsSoundPiece asked c → IsPlanPiece p → is_some p.video ≡ is_some asked.video
typed_piece asked c p of sound good =
    sym (span_there (rc_value p.meta).movie p.video good.video) ∙ track_there c.video (piece_view p).video of.video ∙ asked_there asked.video c.video sound.video

pub typed_of : (asked : Asked) (cs : List CheckedPiece) (pieces : List PlanPiece) → ArePiecesOf cs pieces → All (IsSoundPiece asked) cs → All IsPlanPiece pieces → AreTyped asked pieces
typed_of asked cs pieces are sound good = all_of (λ (p : PlanPiece). is_some p.video ≡ is_some asked.video) pieces (go cs pieces are sound good)
  where
    go : (cs : List CheckedPiece) (pieces : List PlanPiece) → ArePiecesOf cs pieces → All (IsSoundPiece asked) cs → All IsPlanPiece pieces → AllByRecursion (λ (p : PlanPiece). is_some p.video ≡ is_some asked.video) pieces
    go [] [] are sound good = tt
    go [] (p ∷ ps) are sound good = absurd are
    go (c ∷ cs) [] are sound good = tt
    go (c ∷ cs) (p ∷ ps) are sound good =
        (typed_piece asked c p are.0 (All-head (IsSoundPiece asked) c cs sound) (All-head IsPlanPiece p ps good), go cs ps are.1 (All-tail (IsSoundPiece asked) c cs sound) (All-tail IsPlanPiece p ps good))

-- ---- the same pieces with other rows

same_track_of : (o : Option GoodTrack) (r s : Option RowRange) → IsTrackOf o r → AreSameRanges r s → IsTrackOf o s
same_track_of None None None is same = tt
same_track_of None None (Some s) is same = absurd same
same_track_of None (Some r) s is same = absurd is
same_track_of (Some t) None s is same = absurd is
same_track_of (Some t) (Some r) None is same = absurd same
same_track_of (Some t) (Some r) (Some s) is same = sym same.track ∙ is

same_piece_of : (c : CheckedPiece) (p q : PlanPiece) → IsPieceOf c p → IsSamePiece p q → IsPieceOf c q
same_piece_of c p q of same = record {
  name = sym (ap (λ (m : HeldMovie). m.name) same.meta) ∙ of.name;
  size = sym (ap (λ (m : HeldMovie). m.movie.place.file_size) same.meta) ∙ of.size;
  video = same_track_of c.video (piece_view p).video (piece_view q).video of.video same.video;
  audio = same_track_of c.audio (piece_view p).audio (piece_view q).audio of.audio same.audio;
}

pub same_pieces_of : (cs : List CheckedPiece) (ps qs : List PlanPiece) → ArePiecesOf cs ps → AreSamePieces ps qs → ArePiecesOf cs qs
same_pieces_of [] [] [] are same = tt
same_pieces_of [] [] (q ∷ qs) are same = absurd same
same_pieces_of [] (p ∷ ps) qs are same = absurd are
same_pieces_of (c ∷ cs) [] qs are same = absurd are
same_pieces_of (c ∷ cs) (p ∷ ps) [] are same = absurd same
same_pieces_of (c ∷ cs) (p ∷ ps) (q ∷ qs) are same = (same_piece_of c p q are.0 same.0, same_pieces_of cs ps qs are.1 same.1)

same_there : (r s : Option RowRange) → AreSameRanges r s → is_some s ≡ is_some r
same_there None None same = refl
same_there None (Some s) same = absurd same
same_there (Some r) None same = absurd same
same_there (Some r) (Some s) same = refl

same_video : (p q : PlanPiece) → IsSamePiece p q → IsPlanPiece p → IsPlanPiece q → is_some q.video ≡ is_some p.video
same_video p q same good good_too =
    sym (span_there (rc_value q.meta).movie q.video good_too.video) ∙ same_there (piece_view p).video (piece_view q).video same.video ∙ span_there (rc_value p.meta).movie p.video good.video

-- and each has a video track if it had one
pub same_typed : (asked : Asked) (ps qs : List PlanPiece) → AreSamePieces ps qs → All IsPlanPiece ps → All IsPlanPiece qs → AreTyped asked ps → AreTyped asked qs
same_typed asked ps qs same good good_too typed = go ps qs same good good_too typed
  where
    Typed : PlanPiece → Type 0
    Typed p = is_some p.video ≡ is_some asked.video

    go : (ps qs : List PlanPiece) → AreSamePieces ps qs → All IsPlanPiece ps → All IsPlanPiece qs → All Typed ps → All Typed qs
    go [] [] same good good_too typed = All-nil Typed
    go [] (q ∷ qs) same good good_too typed = absurd same
    go (p ∷ ps) [] same good good_too typed = absurd same
    go (p ∷ ps) (q ∷ qs) same good good_too typed =
        All-cons Typed q qs (same_video p q same.0 (All-head IsPlanPiece p ps good) (All-head IsPlanPiece q qs good_too) ∙ All-head Typed p ps typed)
        (go ps qs same.1 (All-tail IsPlanPiece p ps good) (All-tail IsPlanPiece q qs good_too) (All-tail Typed p ps typed))
