use Rattle.std.proofs.Common.{◌≡◌, [], length, ap, subst, ◌∙◌, IfOk, arith}
use Rattle.std.specs.Prelude.{unwrap_or}
use Rattle.mp4_model.specs.Samples.{samples_per_chunk, chunks_from, chunk_offsets}
use Rattle.mp4_tables.specs.Views.{tables_of}
use Rattle.flat_samples.proofs.ListLemmas.{offsets_are}
use Rattle.flat_samples.proofs.tables.offsets.Goals as goal

pub returns-clause-offsets : goal.returns-clause-offsets
returns-clause-offsets g c =
    let t = tables_of c.args.tables.now in
    let count : c.len.result ≡ length (chunk_offsets t) = omega (arith, ap length c.in_ok-next.ensures.offsets) in
    subst (λ xs. IfOk c.offsets_by.result (λ list. list.items ≡ xs))
    (offsets_are t c.as_mut_slice.result.now c.deref-2.result.now c.args.sizes.now (length c.args.sizes.now)
    (c.as_mut_slice.ensures.value ∙ c.in_ok-next.ensures.offsets)
    (c.deref-2.ensures.value ∙ c.in_ok-chunks.ensures.chunks ∙ ap (chunks_from 0) (c.deref.ensures.value ∙ c.in_ok-counts.ensures.counts ∙ ap (samples_per_chunk (unwrap_or t.stsc [])) count))
    c.requires.sizes)
    c.offsets_by.ensures.offsets
