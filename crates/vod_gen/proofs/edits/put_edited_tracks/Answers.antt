use Rattle.std.proofs.Common.{◌≡◌, ◌+◌, [], ◌++◌, length, drop, take, refl, sym, ap, ◌∙◌, arith}
use Rattle.vod_gen.specs.MovieFile.{track_box}
use Rattle.vod_gen.specs.Edited.{edited_tracks}
use Rattle.vod_gen.proofs.EditedFile.{next_track, walk_on, all_walked}
use Rattle.vod_gen.proofs.edits.put_edited_tracks.Goals as goal

pub loop-left-init : goal.loop-left-init
loop-left-init c start all entries are is = record {
  before = [];
  after = all;
  split = refl;
  boxes = are.boxes;
  short = are.sizes;
  rest = ap (λ (l : _). c.args.buf.now ++ edited_tracks c.args.kind entries (start + length l) all [] all) (sym is);
}

pub loop-left-preserved : goal.loop-left-preserved
loop-left-preserved c start all entries are is =
    let left = c.loop-left.left.now in
    let edits = c.args.edits.now in
    let whole = c.args.buf.now ++ edited_tracks c.args.kind entries (start + length edits) all [] all in
    let next = next_track c.args.kind entries start all left c.loop-left.buf whole (sym c.loop-left-test.ensures) are.places (c.loop-left.invariant start all entries are is) in
    let read = c.number_at.ensures next.size next.more next.read next.size_fits in
    let least = next.least in
    let size : c.max-size.result ≡ next.size = omega arith in
    let front : c.front.result.now ≡ track_box next.number next.place next.track = c.front.ensures ∙ ap (λ n. take n left) size ∙ next.front in
    let put = c.in_ok-put_edited_track.ensures next.number next.place next.track front next.place_fits in
    let back = c.behind-left.ensures ∙ ap (λ n. drop n left) size in
    walk_on c.args.kind entries start all left c.loop-left.buf whole edits c.behind-left.result.now c.put_edited_track.new.buf next is back put

pub returns : goal.returns
returns c start all entries are is =
    all_walked c.args.kind entries start all c.loop-left.left.now c.loop-left.buf (c.args.buf.now ++ edited_tracks c.args.kind entries (start + length c.args.edits.now) all [] all)
    (sym c.loop-left-test.ensures) (c.loop-left.invariant start all entries are is)
