use Rattle.std.proofs.Common.{◌≡◌, map, take, string_bytes}
use Rattle.list_model.specs.Command.{plan_text}
use Rattle.segment_model.specs.Listing.{listed_view}
use Rattle.vod_app.proofs.plans.plan_text.Given as goal

abbrev pub invariant-loop-row : goal.invariant-loop-row
invariant-loop-row l = string_bytes l.text ≡ plan_text (map listed_view (take l.row-index l.rows))
