use Rattle.std.proofs.Common.{◌∷◌, []}
use Rattle.vod_http.proofs.Appends.{three}
use Rattle.vod_http.proofs.replies.put_end.Goals as goal

pub returns : goal.returns
returns c = three c.args.head.now.items _ _ (13 ∷ 10 ∷ []) _ _ _ c.put_line_if.ensures.items c.put_line_if-2.ensures.items c.put_text.ensures.items
