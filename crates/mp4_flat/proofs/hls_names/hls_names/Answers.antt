use Rattle.std.proofs.Common.{false, All, refl, sym, subst, ◌∙◌}
use Rattle.std.proofs.lemmas.List.Elements.{All-nil}
use Rattle.flat_lists.specs.Asked.{asking_view, setup_of}
use Rattle.vod_source.proofs.CallLemmas.{told_with_other}
use Rattle.list_model.specs.Names.{IsLeafOf}
use Rattle.mp4_flat.proofs.HlsNames.{hls_put}
use Rattle.mp4_flat.proofs.hls_names.hls_names.Goals as goal

pub returns-in-Ok-push_sequences-clause-told : goal.returns-in-Ok-push_sequences-clause-told
returns-in-Ok-push_sequences-clause-told g c =
    told_with_other (g.S.Store.content c.args.files.now) _ _ _ _ c.in-Ok.ensures.content c.in-Ok.ensures.told c.in-Ok-push_sequences.ensures.told
    (λ known found put. hls_put (setup_of c.args.settings.now c.args.root.now known) (asking_view c.args.asking.now) c.in-Ok.shown.items _ _ _ _ c.deref.ensures.value found c.new-names.ensures.items c.in-Ok-push.ensures.names put)

pub returns-in-Ok-push_sequences-clause-each : goal.returns-in-Ok-push_sequences-clause-each
returns-in-Ok-push_sequences-clause-each g c =
    c.in-Ok-push_sequences.ensures.each (c.in-Ok-push.ensures.each false refl (subst (All (IsLeafOf false)) (sym c.new-names.ensures.items) (All-nil (IsLeafOf false))))
