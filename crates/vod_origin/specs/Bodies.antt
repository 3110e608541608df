-- Bodies that are under way, and what is still to be written of them; this project's own.
use Rattle.std.specs.Prelude.{ℕ, Bool, true, false, [], Option, Some, None, option_map, if◌then◌else◌, ⊤}
use Rattle.std.specs.Option.{option_map_or}
use Rattle.vod_types.specs.SegmentRows.{sample_bytes}
use Rattle.media_model.specs.WritingOrder.{TrackRow}
use Rattle.list_model.specs.Reply.{End, whole, bad_nal}
use Rattle.vod_source.specs.Stored.{Files, bytes_of}
use Rattle.vod_http.specs.Answered.{Rest}
use Rattle.fmp4_writer.specs.Progress as fragments
use Rattle.fmp4_writer.proofs.StepLemmas as fragment_steps
use Rattle.ts_writer.specs.Conditions as streams
use Rattle.ts_writer.specs.Progress as streams_to_come
use Rattle.ts_writer.specs.Progress.{first_bad, samples_to_come}
use Rattle.ts_writer.proofs.WholeLemmas as stream_steps
use Rattle.vod_plan.specs.Planned.{plan_rows}
use Rattle.vod_origin.specs.declared.cursor.Cursor.{Cursor}
use Rattle.vod_origin.specs.declared.cursor.Cursor.TheVariants.{Made, Fragment, Stream}
use Rattle.vod_origin.specs.declared.cursor.FragmentBody.{FragmentBody}
use Rattle.vod_origin.specs.declared.cursor.MadeBody.{MadeBody}
use Rattle.vod_origin.specs.declared.cursor.StreamBody.{StreamBody}
use Rattle.vod_origin.specs.Kept.{OriginKept}

-- ---- a body that is made

-- how a body ends by the bad sample before which it does
abbrev pub end_of : Option (ℕ × ℕ) → End
end_of None = whole
end_of (Some (file, sample)) = bad_nal file sample

-- all of it until it was written
abbrev pub made_rest : MadeBody → Rest
made_rest b = ((if b.waits then b.body.bytes.items else []), end_of b.body.cut)

-- ---- a fragment

-- its rows are those that its writer takes, at the places at which the steps so far have left them
pub record IsFragmentOf (content : Option Files) (b : FragmentBody) : Type 0 where
  pub left : fragments.AreLeft b.writing (plan_rows b.plan) b.plan.places
  pub writable : fragments.AreWritable content (plan_rows b.plan)

abbrev pub fragment_rest : Files → FragmentBody → Rest
fragment_rest files b = (fragments.rest_of (sample_bytes (bytes_of files) (plan_rows b.plan)) b.writing (plan_rows b.plan) b.plan.places, whole)

-- ---- a transport stream

-- before the tables no packet was counted
pub record IsStreamOf (content : Option Files) (b : StreamBody) : Type 0 where
  pub left : streams.AreLeft b.writing.progress (plan_rows b.plan) b.plan.places
  pub writable : streams.AreWritable content (plan_rows b.plan) b.writing
  pub more : streams.HasMore b.writing.progress
  pub starts : stream_steps.StartsAt b.writing.progress b.writing.stream.counters

-- how a stream ends by its first bad sample
abbrev pub end_before : Option TrackRow → End
end_before bad = option_map_or (λ r. bad_nal r.row.file r.row.number) bad whole

abbrev pub stream_rest : Files → StreamBody → Rest
stream_rest files b =
    let rows = plan_rows b.plan in
    (streams_to_come.rest_of files b.writing rows b.plan.places, end_before (first_bad files rows b.writing.stream.hevc (samples_to_come b.writing.progress rows b.plan.places)))

-- ---- any of them

abbrev pub IsBodyOf : Option Files → Cursor → Type 0
IsBodyOf content (Made b) = ⊤
IsBodyOf content (Fragment b) = IsFragmentOf content b
IsBodyOf content (Stream b) = IsStreamOf content b

abbrev pub rest_with : Files → Cursor → Rest
rest_with files (Made b) = made_rest b
rest_with files (Fragment b) = fragment_rest files b
rest_with files (Stream b) = stream_rest files b

abbrev pub rest_in : Option Files → Cursor → Option Rest
rest_in content c = option_map (λ files. rest_with files c) content

abbrev pub is_under_way : Cursor → Bool
is_under_way (Made b) = b.waits
is_under_way (Fragment b) = fragments.is_under_way b.writing
is_under_way (Stream b) = streams.is_under_way b.writing.progress

abbrev pub is_in_packets : Cursor → Bool
is_in_packets (Made b) = b.in_packets
is_in_packets (Fragment b) = false
is_in_packets (Stream b) = true

-- one for all that is made, and else one for the front part and each sample that is to come
abbrev pub calls_left : Cursor → ℕ
calls_left (Made b) = 1
calls_left (Fragment b) = fragment_steps.steps_left b.writing (plan_rows b.plan)
calls_left (Stream b) = stream_steps.steps_left b.writing.progress (plan_rows b.plan) b.plan.places

-- ---- over what no call changes

abbrev pub origin_belongs : OriginKept → Cursor → Type 0
origin_belongs k c = IsBodyOf k.content c

abbrev pub origin_rest : OriginKept → Cursor → Option Rest
origin_rest k c = rest_in k.content c
