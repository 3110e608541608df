use Rattle.std.proofs.Common.{subst, sym}
use Rattle.clip_map.specs.declared.clips.Clip.{Clip}
use Rattle.clip_map.specs.Views.{clip_view, source_view}
use Rattle.clip_model.specs.Mapping.{IsClip}
use Rattle.seq_timeline.specs.Bounds.{AreUnits}
use Rattle.seq_timeline.proofs.PieceLemmas.{source_reach}
use Rattle.seq_timeline.proofs.pieces.push_pieces.Goals as goal

pub push_trimmed-requires : goal.push_trimmed-requires
push_trimmed-requires c =
    let p = c.args.placed.now in
    let s = c.args.selection.now in
    let P : Clip → Type 0 = λ x. IsClip (clip_view x) in
    let within = subst P c.in-Source.is c.requires.clip in
    subst AreUnits (sym c.in_ok-piece-in-Source.ensures.piece) (source_reach s.root.now s.tracks c.args.part p.start p.length (source_view c.in-Source.clip) c.requires.start c.requires.length within)
