-- A step of the cursor tells whether the row is a sync row.
use Rattle.std.proofs.Common.{◌≡◌, ◌+◌, ℕ, Bool, cond, sym, ap, subst, ◌∙◌, arith}
use Rattle.mp4_model.specs.Samples.{sample_count}
use Rattle.mp4_model.specs.Tables.{SampleTables}
use Rattle.time_runs.specs.Cursors.{StandsAt}
use Rattle.vod_plan.specs.Ranges.{range_rows}
use Rattle.vod_plan.specs.Spans.{piece_view}
use Rattle.vod_plan.proofs.RangeLemmas.{rows_length}
use Rattle.vod_plan.proofs.SpotLemmas.{good_range, range_there, times_row}
use Rattle.vod_plan.proofs.SyncLemmas.{count_in, found_in, front_all, front_more, none_in, one_most, range_row, rows_counted, sync_found, told_sync}
use Rattle.vod_plan.proofs.syncs.sync_in.Goals as goal
use Rattle.vod_plan.proofs.syncs.sync_in.Goals.{else-sync-via-then-sync+else-from-index, else-sync-via-else-sync}

pub returns-then-rows-eq0-clause-none : goal.returns-then-rows-eq0-clause-none
returns-then-rows-eq0-clause-none g c = (omega arith, λ file. none_in c.args.kind file c.args.piece.now c.requires (omega (arith, c.rows-rows.ensures, c.if-rows-eq0.true)))

pub next-sync-requires-clause-stands : goal.next-sync-requires-clause-stands
next-sync-requires-clause-stands g c =
    let found = range_there c.args.kind (piece_view c.args.piece.now) (omega (arith, c.rows-rows.ensures, c.if-rows-eq0.false)) in
    let r = found.0 in
    let tables = ap (λ x. x.tables) (c.times-times.ensures r found.1) in
    let stands = c.loop-at.invariant.stands r found.1 in
    subst (λ (t : SampleTables). StandsAt t c.loop-at.cursor.row c.loop-at.cursor) (sym tables)
    (subst (λ (n : ℕ). StandsAt r.track.tables n c.loop-at.cursor) (sym (times_row r.track.tables (r.from + c.loop-at.at) c.loop-at.cursor stands)) stands)

pub next-sync-requires-clause-within : goal.next-sync-requires-clause-within
next-sync-requires-clause-within g c =
    let found = range_there c.args.kind (piece_view c.args.piece.now) (omega (arith, c.rows-rows.ensures, c.if-rows-eq0.false)) in
    let r = found.0 in
    let count = ap (λ x. sample_count x.tables) (c.times-times.ensures r found.1) in
    let row = times_row r.track.tables (r.from + c.loop-at.at) c.loop-at.cursor (c.loop-at.invariant.stands r found.1) in
    let good = good_range c.args.kind c.args.piece.now r c.requires found.1 in
    omega (arith, count, row, good.to, c.loop-at-test.true, c.rows-rows.ensures, rows_counted c.args.kind (piece_view c.args.piece.now) r found.1)

pub returns-then-from-index-clause-found : goal.returns-then-from-index-clause-found
returns-then-from-index-clause-found g c = λ file.
    let kind = c.args.kind in
    let p = c.args.piece.now in
    let found = range_there kind (piece_view p) (omega (arith, c.rows-rows.ensures, c.if-rows-eq0.false)) in
    let r = found.0 in
    let row = times_row r.track.tables (r.from + c.loop-at.at) c.loop-at.cursor (c.loop-at.invariant.stands r found.1) in
    let good = good_range kind p r c.requires found.1 in
    let there = range_row kind file p.base r c.loop-at.at good (omega (arith, c.loop-at-test.true, c.rows-rows.ensures, rows_counted kind (piece_view p) r found.1)) in
    let sync : c.next-sync.result.3 ≡ there.0.sync =
    told_sync c.times-times.result.tables r.track.tables c.loop-at.cursor.row (r.from + c.loop-at.at) _ _ _ c.next-sync.result there.0.sync c.next-sync.ensures.value (ap (λ x. x.tables) (c.times-times.ensures r found.1)) row there.2 in
    let count = c.loop-at.invariant.count file r found.1 in
    found_in kind file (piece_view p) r c.args.index c.loop-at.at found.1
    (sync_found (range_rows kind file p.base r) c.loop-at.at c.args.index there.0 there.1 (sym c.if-sync.true ∙ sync) (omega (arith, count, c.if-from-index.true, c.from-then-sync.ensures)))

pub loop-at-preserved : goal.loop-at-preserved
loop-at-preserved g c =
    let kind = c.args.kind in
    let p = c.args.piece.now in
    record {
      stands = λ r e.
          let row = times_row r.track.tables (r.from + c.loop-at.at) c.loop-at.cursor (c.loop-at.invariant.stands r e) in
          subst (λ (n : ℕ). StandsAt r.track.tables n c.next-sync.new.self) (let next : c.loop-at.cursor.row + 1 ≡ r.from + (c.loop-at.at + 1) = omega (arith, row) in next)
          (subst (λ (t : SampleTables). StandsAt t (c.loop-at.cursor.row + 1) c.next-sync.new.self) (ap (λ x. x.tables) (c.times-times.ensures r e)) c.next-sync.ensures.stands);
      count = λ file r e.
          let row = times_row r.track.tables (r.from + c.loop-at.at) c.loop-at.cursor (c.loop-at.invariant.stands r e) in
          let good = good_range kind p r c.requires e in
          let there = range_row kind file p.base r c.loop-at.at good (omega (arith, c.loop-at-test.true, c.rows-rows.ensures, rows_counted kind (piece_view p) r e)) in
          let sync : c.next-sync.result.3 ≡ there.0.sync =
          told_sync c.times-times.result.tables r.track.tables c.loop-at.cursor.row (r.from + c.loop-at.at) _ _ _ c.next-sync.result there.0.sync c.next-sync.ensures.value (ap (λ x. x.tables) (c.times-times.ensures r e)) row there.2 in
          ap (λ (m : ℕ). c.loop-at.syncs + m) c.count_of-syncs.ensures
          ∙ front_more (range_rows kind file p.base r) c.loop-at.at c.loop-at.syncs there.0 c.next-sync.result.3 there.1 sync (c.loop-at.invariant.count file r e);
      few = omega (arith, c.count_of-syncs.ensures, c.loop-at.invariant.few, one_most c.next-sync.result.3);
      most = elim c.else-sync.branch [
        | else-sync-via-then-sync+else-from-index w ↦
            (let differs = w.if-from-index.false in omega (arith, differs, w.from-then-sync.ensures, c.count_of-syncs.ensures, c.loop-at.invariant.most, one_most c.next-sync.result.3))
        | else-sync-via-else-sync w ↦
            (let none = ap (λ (b : Bool). cond {A = ℕ} b 1 0) w.if-sync.false in omega (arith, none, c.count_of-syncs.ensures, c.loop-at.invariant.most))
      ];
      looks = omega (arith, c.loop-at.invariant.looks, c.next-sync.ensures.looks);
    }

pub returns-clause-none : goal.returns-clause-none
returns-clause-none g c = (
  c.loop-at.invariant.most,
  λ file.
      let kind = c.args.kind in
      let p = c.args.piece.now in
      let found = range_there kind (piece_view p) (omega (arith, c.rows-rows.ensures, c.if-rows-eq0.false)) in
      let r = found.0 in
      let good = good_range kind p r c.requires found.1 in
      count_in kind file (piece_view p) r c.loop-at.syncs found.1
      (front_all (range_rows kind file p.base r) c.loop-at.at c.loop-at.syncs (omega (arith, rows_length kind file p.base r good, c.loop-at-test.false, c.rows-rows.ensures, rows_counted kind (piece_view p) r found.1)) (c.loop-at.invariant.count file r found.1)),
)
