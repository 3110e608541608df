use Rattle.std.proofs.Common.{◌≡◌, ◌*◌, ◌^◌, ◌≤◌, map, take}
use Rattle.std.specs.Prelude.{sum_by}
use Rattle.segment_model.specs.Listing.{listed_view}
use Rattle.vod_session.specs.Calls.{AreAnswers}
use Rattle.vod_session.specs.Steps.{Answers}
use Rattle.vod_app.specs.Rehearsals.{answered_media}
use Rattle.vod_app.proofs.rehearsals.media_of.Given as goal

abbrev pub invariant-loop-row : goal.invariant-loop-row
invariant-loop-row g l = record {
  media : (answers : Answers) → AreAnswers (g.A.Answerer.answer (g.A.Answerer.kept l.fn.a)) answers →
      l.media ≡ sum_by (answered_media answers) (map listed_view (take l.row-index l.rows));
  few : l.media ≤ l.row-index * 2 ^ 64;
  kept : g.A.Answerer.kept l.a ≡ g.A.Answerer.kept l.fn.a;
}
