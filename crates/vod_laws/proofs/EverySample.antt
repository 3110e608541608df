-- Every selected sample is in one segment.
use Rattle.std.proofs.Common.{◌≡◌, ℕ, zero, suc, ◌<◌, Bool, List, [], ◌∷◌, length, get_or, All, Some, slice_get, refl, arith}
use Rattle.std.proofs.lemmas.List.Elements.{All-map, All-weaker}
use Rattle.vod_types.specs.declared.tracks.Asked.{Asked}
use Rattle.clip_model.specs.IsTimeline.{IsTimeline}
use Rattle.clip_model.specs.Timeline.{Timeline}
use Rattle.clip_model.proofs.TimelineKept.{timeline_in}
use Rattle.segment_model.specs.Grid.{SegmentGrid}
use Rattle.segment_model.specs.Laws.{IsSourcePart, Partition, OneCut}
use Rattle.vod_source.specs.Stored.{Files}
use Rattle.origin_model.specs.Requests.{honours_edits}
use Rattle.origin_model.specs.Sources.{source_part, source_parts}
use Rattle.origin_model.proofs.Askings.{ask_in-range, asking_in}
use Rattle.vod_laws.specs.Samples.{AskedPartsAreSourceParts, IsCutOnce, EverySampleOnce}
use Rattle.vod_laws.proofs.AskedParts.{is_source_part}

at_index : {X : Type 0} (xs : List X) (k : ℕ) (d : X) → k < length xs → slice_get xs k ≡ Some (get_or xs k d)
at_index [] k d lt = absurd (omega (arith, lt))
at_index (x ∷ xs) zero d lt = refl
at_index (x ∷ xs) (suc k) d lt = at_index xs k d (omega (arith, lt))

of_timeline : (t : Timeline) → IsTimeline t.pieces t.parts → (files : Files) (edits : Bool) (asked : Asked) → All IsSourcePart (source_parts files edits asked t)
of_timeline t h files edits asked =
    All-map IsSourcePart (source_part files edits asked t) t.parts
    (λ k d lt. is_source_part t h k (get_or t.parts k d) (at_index t.parts k d lt) files edits asked)

pub asked_parts : AskedPartsAreSourceParts
asked_parts o path ask read a asking sequence t timed asked =
    let keeps = asking_in o ask a (ask_in-range path ask read) asking in
    of_timeline t (timeline_in o.root a.mapping sequence a.window a.tracks t keeps.mapping keeps.from keeps.to timed) o.files (honours_edits o) asked

pub every_sample_once : Partition → OneCut → EverySampleOnce
every_sample_once cut lone o path ask read a asking sequence t timed asked =
    All-weaker IsSourcePart (λ part. (grid : SegmentGrid) (align : Bool) → IsCutOnce grid align part)
    (λ part is grid align. record { partition = cut grid align part is; lone = lone grid align part is })
    (source_parts o.files (honours_edits o) asked t) (asked_parts o path ask read a asking sequence t timed asked)
