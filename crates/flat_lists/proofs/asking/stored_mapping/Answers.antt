use Rattle.std.proofs.Common.{ap, sym, subst, ◌∙◌}
use Rattle.vod_source.specs.Stored.{size_of}
use Rattle.origin_model.specs.Requests.{mapping_file}
use Rattle.vod_source.specs.Calls.{Came}
use Rattle.flat_lists.specs.Mapped.{mapping_file_reads}
use Rattle.vod_source.proofs.CallLemmas.{told_with_all}
use Rattle.flat_lists.proofs.AskingLemmas.{mapping-absent}
use Rattle.flat_lists.proofs.asking.stored_mapping.Goals as goal

pub returns-in-Ok-None-clause-told : goal.returns-in-Ok-None-clause-told
returns-in-Ok-None-clause-told g c =
    let log = g.S.Store.log c.args.files.now in
    told_with_all (g.S.Store.content c.args.files.now) _ _ c.in-Ok-None.ensures.told
    (λ known e. subst (Came (λ m. m) _ (mapping_file known c.args.name) (mapping_file_reads known c.args.name) log) (sym c.in-Ok-None.ensures.log)
    (mapping-absent known c.args.name log (sym c.in-Ok-None.field-0-is ∙ (e ∙ ap (size_of known) c.as_str.ensures))))
