-- What `rehearse` writes; this project's own.
use Rattle.std.specs.Prelude.{◌≡◌, ◌≢◌, ℕ, ◌+◌, ◌-◌, ◌*◌, ◌⊎◌, ◌==◌, List, [], ◌++◌, length, map, sum_by, codes, decimal, Option, Some, None, Result, Ok, Err, if◌then◌else◌}
use Rattle.vod_types.specs.declared.refusal.Refusal.{Refusal}
use Rattle.vod_types.specs.declared.refusal.Refusal.TheVariants.{NoMemory, StoreFailed}
use Rattle.vod_types.specs.declared.segments.Listed.{Listed}
use Rattle.segment_model.specs.Listing.{ListedSegment, listed_view}
use Rattle.list_model.specs.Command.{Outcome, done, no_memory, outcome_status, rehearsal_line, sink_failed}
use Rattle.list_model.specs.Reply.{Answer}
use Rattle.vod_session.specs.Steps.{Answers}
use Rattle.vod_source.specs.Calls.{AnswersUnlessFailed}
use Rattle.vod_source.specs.Stored.{Files}
use Rattle.origin_model.specs.Answers.{answer, path_rows}
use Rattle.origin_model.specs.Outcomes.{Due, GainsDue, GainsLine}
use Rattle.origin_model.specs.Requests.{Setup}
use Rattle.rehearsal_laws.specs.Films.{playlist_path, rehearsal_setup, IsFilm}

-- ---- what is counted

-- the path of the fragment of a number
abbrev pub segment_path : ℕ → List ℕ
segment_path number = codes "/mapped/hls/m.json/seg-" ++ decimal number ++ codes "-f1-v1-a1.m4s"

abbrev pub listed_samples : ListedSegment → ℕ
listed_samples listed = listed.1 + listed.2

abbrev pub has_samples : ℕ → ℕ
has_samples count = if count == 0 then 0 else 1

-- The boxes of a fragment take 56 bytes, 64 for each track that has samples, and 16 for each sample.
abbrev pub front_bytes : ListedSegment → ℕ
front_bytes listed = 56 + 64 * (has_samples listed.1 + has_samples listed.2) + 16 * listed_samples listed

-- how many bytes an answer has
abbrev pub answer_length : Answer → ℕ
answer_length (Ok body) = length body.bytes
answer_length (Err why) = 0

-- those that are media, of the fragment of a listed segment
abbrev pub answered_media : Answers → ListedSegment → ℕ
answered_media answers listed = answer_length (answers (segment_path listed.0.number) None) - front_bytes listed

-- ---- the line

abbrev pub line_of : ℕ → Answers → Result (List ListedSegment) Refusal → Due
line_of n answers (Ok rows) = (rehearsal_line n (length rows) (sum_by listed_samples rows) (sum_by (answered_media answers) rows), None)
line_of n answers (Err why) = ([], Some why)

-- the line of a number over its film, and the refusal of its playlist in place of one
unfoldable pub rehearsal_due : ℕ → Setup → Due
rehearsal_due n o = line_of n (answer o) (path_rows o playlist_path)

-- the listed rows of the playlist over these files, or why there are none
abbrev pub AreListedRows : Files → Result (List Listed) Refusal → Type 0
AreListedRows files result = AnswersUnlessFailed (map listed_view) result (path_rows (rehearsal_setup files) playlist_path)

-- ---- outcomes

-- what came of making the line
abbrev pub TellsLine : {T : Type 0} → (T → List ℕ) → ℕ → Result T Refusal → Type 0
TellsLine view n (Ok text) = (files : Files) × IsFilm n files × (rehearsal_due n (rehearsal_setup files) ≡ (view text, None))
TellsLine view n (Err why) = why ≢ NoMemory → why ≢ StoreFailed → (files : Files) × IsFilm n files × (rehearsal_due n (rehearsal_setup files) ≡ ([], Some why))

-- The line of a film of the number was written, by this outcome; nothing where no memory was there for the film.
pub record WritesLine (n : ℕ) (outcome : Outcome) (out out_now : Option (List ℕ)) : Type 0 where
  pub files : Files
  pub film : IsFilm n files
  pub wrote : GainsDue (rehearsal_due n (rehearsal_setup files)) outcome out out_now

abbrev pub IsRehearsed : ℕ → Outcome → Option (List ℕ) → Option (List ℕ) → Type 0
IsRehearsed n outcome out out_now = ((outcome ≡ no_memory) × (out_now ≡ out)) ⊎ WritesLine n outcome out out_now

-- The line was made, or memory or the output failed: no film is refused.
abbrev pub IsUnrefused : Outcome → Type 0
IsUnrefused outcome = (outcome ≡ done) ⊎ ((outcome ≡ sink_failed) ⊎ (outcome ≡ no_memory))

-- how `rehearse` ends and what it wrote
pub record RehearsalOutcome (n status : ℕ) (out out_now : Option (List ℕ)) (err err_now : Option (List ℕ)) (err_faults err_faults_now : ℕ) : Type 0 where
  pub outcome : Outcome
  pub status_is : status ≡ outcome_status outcome
  pub rehearsed : IsRehearsed n outcome out out_now
  pub told : GainsLine outcome err err_now err_faults err_faults_now
