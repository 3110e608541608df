use Rattle.std.proofs.Common.{◌≡◌, ◌++◌, ◌<◌, ◌^◌, All, Some, Ok, Err, map, flat_map, rules, refl, sym, ap, ap₂, ◌∙◌, subst}
use Rattle.media_model.specs.Clip.{placed_rows}
use Rattle.vod_source.specs.Calls.{LogsReads}
use Rattle.vod_source.proofs.CallLemmas.{told_all, told_with_both}
use Rattle.flat_clip.specs.Parts.{row_part, row_reads, LiesIf}
use Rattle.flat_clip.specs.Rows.{facts_of}
use Rattle.flat_clip.specs.Tracks.{placed_view}
use Rattle.flat_clip.proofs.PartCalls.{all-lie, found-sound, part-cut, part-read, part-refused}
use Rattle.flat_clip.proofs.part.rows_part.Goals as goal

pub returns-in-Err-clause-told : goal.returns-in-Err-clause-told
returns-in-Err-clause-told g c =
    told_all (g.S.Store.content c.args.files.now) _ (λ known. part-refused known c.args.range (facts_of c.args.rows.now) _ _ c.in-Err.refusal refl c.in-Err.ensures.fault)

pub read_samples-requires : goal.read_samples-requires
read_samples-requires g c =
    let f = facts_of c.args.rows.now in
    let part = c.in-Ok.begun.part in
    let are : map placed_view c.deref.result.now ≡ placed_rows f.video f.audio = ap (map placed_view) c.deref.ensures.value ∙ c.in-Ok.ensures.samples in
    let small : c.args.rows.now.file_size < 2 ^ 64 = search rules in
    let lie = all-lie f.name f.size (g.S.Store.content c.args.files.now) small c.requires.sized part (placed_rows f.video f.audio) (found-sound c.args.range f part c.in-Ok.ensures.part) in
    subst (λ rows. All (LiesIf c.as_str.result.now part (g.S.Store.content c.args.files.now)) rows) (sym are)
    (subst (λ name. All (LiesIf name part (g.S.Store.content c.args.files.now)) (placed_rows f.video f.audio)) (sym c.as_str.ensures) lie)

pub returns-in-Ok-read_samples-clause-told : goal.returns-in-Ok-read_samples-clause-told
returns-in-Ok-read_samples-clause-told g c =
    let f = facts_of c.args.rows.now in
    let part = c.in-Ok.begun.part in
    let are : map placed_view c.deref.result.now ≡ placed_rows f.video f.audio = ap (map placed_view) c.deref.ensures.value ∙ c.in-Ok.ensures.samples in
    let small : c.args.rows.now.file_size < 2 ^ 64 = search rules in
    told_with_both (g.S.Store.content c.args.files.now) _ _ _ c.requires.sized c.in-Ok-read_samples.ensures.told
    (λ known sized told. part-read known c.args.range f _ _ part c.in-Ok.ensures.part _ c.in-Ok.begun.bytes.items c.requires.small
    (all-lie f.name f.size (Some known) small sized part (placed_rows f.video f.audio) (found-sound c.args.range f part c.in-Ok.ensures.part))
    c.in-Ok.ensures.bytes
    (told ∙ ap₂ (λ name rows. c.in-Ok.begun.bytes.items ++ flat_map (row_part name part known) rows) c.as_str.ensures are)
    refl refl c.in-Ok.ensures.length
    (subst (λ rows. LogsReads {X = Unit {0}} (Ok tt) (flat_map (row_reads f.name part) rows) (g.S.Store.log c.args.files.now) (g.S.Store.log c.read_samples.new.files)) are
    (subst (λ name. LogsReads {X = Unit {0}} (Ok tt) (flat_map (row_reads name part) (map placed_view c.deref.result.now)) (g.S.Store.log c.args.files.now) (g.S.Store.log c.read_samples.new.files)) c.as_str.ensures
    c.in-Ok-read_samples.ensures.logged)))

pub returns-clause-told : goal.returns-clause-told
returns-clause-told g c =
    let f = facts_of c.args.rows.now in
    let part = c.in-Ok.begun.part in
    let are : map placed_view c.deref.result.now ≡ placed_rows f.video f.audio = ap (map placed_view) c.deref.ensures.value ∙ c.in-Ok.ensures.samples in
    told_all (g.S.Store.content c.args.files.now) _
    (λ known. part-cut known c.args.range f _ _ part c.in-Ok.ensures.part c.in-Err-read_samples.refusal
    (subst (λ rows. LogsReads {X = Unit {0}} (Err c.in-Err-read_samples.refusal) (flat_map (row_reads f.name part) rows) (g.S.Store.log c.args.files.now) (g.S.Store.log c.read_samples.new.files)) are
    (subst (λ name. LogsReads {X = Unit {0}} (Err c.in-Err-read_samples.refusal) (flat_map (row_reads name part) (map placed_view c.deref.result.now)) (g.S.Store.log c.args.files.now) (g.S.Store.log c.read_samples.new.files)) c.as_str.ensures
    c.in-Err-read_samples.ensures.logged))
    c.in-Err-read_samples.ensures.only)
