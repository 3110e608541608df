use Rattle.std.proofs.Common.{◌≡◌, ◌+◌, ◌≤◌, ◌∷◌, [], ℕ, List, length, Some, None, codes, pos, true, false, refl, lit≤, arith}
use Rattle.std.specs.Prelude.{IsSome, All}
use Rattle.std.proofs.lemmas.List.Elements.{All-nil, All-cons}
use Rattle.vod_types.specs.declared.segments.Row.{Row}
use Rattle.vod_types.specs.declared.tracks.Kind.TheVariants.{Video, Audio}
use Rattle.vod_types.specs.SegmentRows.{SegmentRows}
use Rattle.vod_source.specs.Stored.{file_named}
use Rattle.vod_bytes.specs.Fields.{u16_at}
use Rattle.mp4_model.specs.Avc.{read_avcc}
use Rattle.mp4_model.specs.ParameterSets.{set_at, sets_at}
use Rattle.mp4_model.specs.Video.{length_size_of}
use Rattle.ts_writer.specs.Conditions.{IsWritable, AreWritable}
use Rattle.ts_writer.specs.Progress.{segment_begun}
use Rattle.ts_writer.proofs.tests.picture_segment.Goals as goal

picture : ℕ → ℕ → ℕ → Row
picture number at time = record { file = 0; number = number; sample = record { at = at; size = 10; dts = pos time; pts = pos time; dur = 0; sync = true } }

abbrev last_two : List Row
last_two = picture 3 30 9000 ∷ picture 4 40 12000 ∷ []

abbrev last_four : List Row
last_four = picture 1 10 3000 ∷ picture 2 20 6000 ∷ last_two

module _ (bytes config : List ℕ) (many : length bytes ≡ 50) (configured : IsSome (length_size_of false config)) where
  abbrev rows : SegmentRows
  rows = record { video = picture 0 0 0 ∷ last_four; audio = []; name = λ _. codes "a.mp4"; config = λ _ _. config }

  abbrev writable : Row → Type 0
  writable = IsWritable (Some ((codes "a.mp4", bytes) ∷ [])) rows false 10 Video

  one : (number at time : ℕ) → at + 10 ≤ 50 → writable (picture number at time)
  unfolding picture file_named
  one number at time within = record { fits = omega (arith, within); within = omega (arith, many, within); room = lit≤ tt; short = tt; configured = configured }

  two : All writable last_two
  two = All-cons writable (picture 3 30 9000) (picture 4 40 12000 ∷ []) (one 3 30 9000 (lit≤ tt)) (All-cons writable (picture 4 40 12000) [] (one 4 40 12000 (lit≤ tt)) (All-nil writable))

  four : All writable last_four
  four = All-cons writable (picture 1 10 3000) (picture 2 20 6000 ∷ last_two) (one 1 10 3000 (lit≤ tt)) (All-cons writable (picture 2 20 6000) last_two (one 2 20 6000 (lit≤ tt)) two)

  are_writable : AreWritable (Some ((codes "a.mp4", bytes) ∷ [])) rows (segment_begun 10 (record { video = Some 1; audio = None }) false)
  are_writable = record {
    video = All-cons writable (picture 0 0 0) last_four (one 0 0 0 (lit≤ tt)) four;
    audio = All-nil (IsWritable (Some ((codes "a.mp4", bytes) ∷ [])) rows false 10 Audio);
  }

abbrev avc : List ℕ
avc = 1 ∷ 66 ∷ 0 ∷ 30 ∷ 255 ∷ 225 ∷ 0 ∷ 4 ∷ 103 ∷ 66 ∷ 0 ∷ 30 ∷ 1 ∷ 0 ∷ 2 ∷ 104 ∷ 206 ∷ []

is_record : IsSome (length_size_of false avc)
unfolding read_avcc set_at sets_at u16_at
is_record = refl

pub write_stream-ended-requires-clause-writable : goal.write_stream-ended-requires-clause-writable
unfolding picture
write_stream-ended-requires-clause-writable c =
    rw (c.in_ok-store.ensures, c.row.ensures, c.row-2.ensures, c.row-3.ensures, c.row-4.ensures, c.row-5.ensures, c.in_ok-segment.ensures) (are_writable _ avc refl is_record)
