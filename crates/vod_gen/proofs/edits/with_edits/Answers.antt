use Rattle.std.proofs.Common.{◌≡◌, ◌+◌, ◌-◌, [], ◌++◌, length, drop, take, sym, ap, subst, ◌∙◌}
use Rattle.vod_gen.specs.MovieFile.{media_start}
use Rattle.vod_gen.specs.Edited.{edit_box, edited_tracks}
use Rattle.vod_gen.specs.EditSteps.{AreTracks}
use Rattle.vod_gen.proofs.EditedFile.{movie_parts}
use Rattle.vod_gen.proofs.edits.with_edits.Goals as goal

pub returns : goal.returns
returns c spec one =
    let movie = c.args.movie.now in
    let entries = c.args.entries.now in
    let tracks = spec.tracks.items in
    let start = media_start tracks in
    let parts = movie_parts spec c.args.kind entries movie one in
    let edits : c.deref.result.now ≡ edit_box entries = c.deref.ensures.value ∙ c.in_ok-edits.ensures in
    let by : c.len.result ≡ length (edit_box entries) = c.len.ensures ∙ c.in_ok-edits.edits.ok.0 ∙ ap length c.in_ok-edits.ensures in
    let size : c.number_at-size.result ≡ parts.size = c.number_at-size.ensures parts.size parts.more parts.read parts.size_fits in
    let end : c.saturating_sub-end.result ≡ parts.size - 116 = c.saturating_sub-end.ensures ∙ ap (λ n. n - 116) size in
    let boxes : c.front-3.result.now ≡ take (parts.size - 116) (drop 140 movie) =
    c.front-3.ensures ∙ ap (λ l. take c.saturating_sub-end.result l) c.behind-rest.ensures ∙ ap (λ n. take n (drop 140 movie)) end in
    let rest : c.behind-2.result.now ≡ drop (parts.size - 116) (drop 140 movie) =
    c.behind-2.ensures ∙ ap (λ l. drop c.saturating_sub-end.result l) c.behind-rest.ensures ∙ ap (λ n. drop n (drop 140 movie)) end in
    let head : c.behind.result.now ≡ drop 28 (take 140 movie) = c.behind.ensures ∙ ap (λ l. drop 28 l) c.front-2.ensures in
    let mended : c.from.result + c.len.result ≡ parts.size + length (edit_box entries) =
    ap (λ n. n + c.len.result) (c.from.ensures ∙ size) ∙ ap (λ n. parts.size + n) by in
    let first : c.bytes.new.self ≡ take 24 movie = c.in_ok-bytes.ensures.ok ∙ ap (λ l. l ++ c.front.result.now) c.new-file.ensures ∙ c.front.ensures in
    let put : c.put_edited_tracks.new.buf ≡ c.bytes-2.new.self ++ edited_tracks c.args.kind entries (start + length (edit_box entries)) tracks [] tracks =
    c.in_ok-put_edited_tracks.ensures start tracks entries (subst (AreTracks start tracks) (sym boxes) parts.tracks) edits
    ∙ ap (λ l. c.bytes-2.new.self ++ edited_tracks c.args.kind entries (start + length l) tracks [] tracks) edits in
    rw (c.into_vec.ensures, c.in_ok-bytes-3.ensures.ok, put, rest, c.in_ok-bytes-2.ensures.ok, head, c.in_ok-put_low.ensures, mended, first) parts.edited
