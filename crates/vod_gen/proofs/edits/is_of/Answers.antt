use Rattle.std.proofs.Common.{◌≡◌, drop, take, ap, ◌∙◌}
use Rattle.std.specs.Prelude.{bytes_eq}
use Rattle.media_model.specs.InitSegment.{handler_type}
use Rattle.vod_gen.proofs.EditedFile.{handler_read, same_handler}
use Rattle.vod_gen.proofs.edits.is_of.Goals as goal

pub returns : goal.returns
returns c number place t is =
    let read : c.front.result.now ≡ handler_type t.kind =
    c.front.ensures ∙ ap (take 4) (c.behind.ensures ∙ ap (drop 156) is) ∙ handler_read number place t in
    let wanted : c.as_slice.result.now ≡ handler_type c.args.kind = c.as_slice.ensures ∙ c.handler_of.ensures in
    c.eq.ensures ∙ ap (λ l. bytes_eq l c.as_slice.result.now) read ∙ ap (bytes_eq (handler_type t.kind)) wanted ∙ same_handler t.kind c.args.kind
