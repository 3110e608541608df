use Rattle.std.proofs.Common.{◌≡◌, ◌∷◌, [], ℕ, List, length, Some, None, codes, pos, true, false, refl, lit≤, lit<, arith}
use Rattle.std.specs.Prelude.{IsSome}
use Rattle.std.proofs.lemmas.List.Elements.{All-nil, All-cons}
use Rattle.vod_types.specs.declared.segments.Row.{Row}
use Rattle.vod_types.specs.declared.tracks.Kind.TheVariants.{Video, Audio}
use Rattle.vod_types.specs.SegmentRows.{SegmentRows}
use Rattle.vod_source.specs.Stored.{file_named}
use Rattle.mp4_model.specs.Aac.{read_asc, take_bits, take_rate}
use Rattle.ts_writer.specs.Conditions.{IsWritable, AreWritable}
use Rattle.ts_writer.specs.Progress.{segment_begun}
use Rattle.ts_writer.proofs.tests.frame_segment.Goals as goal

frame : Row
frame = record { file = 0; number = 0; sample = record { at = 0; size = 100; dts = pos 0; pts = pos 0; dur = 0; sync = true } }

abbrev rows : List ℕ → SegmentRows
rows config = record { video = []; audio = frame ∷ []; name = λ _. codes "a.mp4"; config = λ _ _. config }

are_writable : (bytes config : List ℕ) → length bytes ≡ 100 → IsSome (read_asc config) →
    AreWritable (Some ((codes "a.mp4", bytes) ∷ [])) (rows config) (segment_begun 100 (record { video = None; audio = Some 1 }) false)
unfolding frame file_named
are_writable bytes config many configured =
    let files = Some ((codes "a.mp4", bytes) ∷ []) in
    record {
      video = All-nil (IsWritable files (rows config) false 100 Video);
      audio = All-cons (IsWritable files (rows config) false 100 Audio) frame [] (record { fits = lit< tt; within = omega (arith, many); room = lit≤ tt; short = lit≤ tt; configured = configured }) (All-nil (IsWritable files (rows config) false 100 Audio));
    }

abbrev aac : List ℕ
aac = 17 ∷ 144 ∷ []

is_record : IsSome (read_asc aac)
unfolding read_asc take_bits take_rate
is_record = refl

pub write_stream-ended-requires-clause-writable : goal.write_stream-ended-requires-clause-writable
unfolding frame
write_stream-ended-requires-clause-writable c = rw (c.in_ok-store.ensures, c.row.ensures, c.in_ok-segment.ensures) (are_writable _ aac refl is_record)
