-- The checkpoints that are kept of a track.
use Rattle.std.proofs.Common.{◌≡◌, ℕ, ◌+◌, ◌-◌, List, length, Some, None, refl, sym, arith, ◌∙◌}
use Rattle.std.specs.Prelude.{Option, slice_get}
use Rattle.std.proofs.lemmas.Bool.{ltb-true, ltb-false}
use Rattle.std.proofs.lemmas.Option.{slice_get_read, slice_get_past}
use Rattle.vod_meta.specs.declared.indexes.TrackIndex.{TrackIndex}
use Rattle.vod_meta.proofs.IndexLemmas.{no_number, kept_at}
use Rattle.vod_meta.proofs.meta.Meta.index.Goals as goal

pub returns-then-track-eq0 : goal.returns-then-track-eq0
returns-then-track-eq0 c = sym (no_number c.args.self.now.movie.tracks c.args.track c.if-track-eq0.true)

pub returns-in-Some : goal.returns-in-Some
returns-in-Some c =
    let number : ℕ = c.args.track.number - 1 in
    let whole : c.args.track.number ≡ number + 1 = omega (arith, c.if-track-eq0.false) in
    let list : List (Option TrackIndex) = c.of_kind.result.now in
    let at : slice_get list number ≡ Some c.in-Some.index.now = slice_get_read list (length list) number c.in-Some.index.now refl (ltb-true number (length list) (sym c.in-Some.ensures.lookup.0)) c.in-Some.ensures.lookup.1 in
    c.as_ref.ensures.value
    ∙ sym (kept_at c.args.self.now.movie.tracks c.args.track number (Some c.in-Some.index.now) whole (rw c.of_kind.ensures at at))

pub returns-in-None : goal.returns-in-None
returns-in-None c =
    let number : ℕ = c.args.track.number - 1 in
    let whole : c.args.track.number ≡ number + 1 = omega (arith, c.if-track-eq0.false) in
    let list : List (Option TrackIndex) = c.of_kind.result.now in
    let at : slice_get list number ≡ None = slice_get_past list number (ltb-false number (length list) (sym c.in-None.ensures.lookup.0)) in
    sym (kept_at c.args.self.now.movie.tracks c.args.track number None whole (rw c.of_kind.ensures at at))
