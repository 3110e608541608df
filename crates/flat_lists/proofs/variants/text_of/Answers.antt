use Rattle.std.proofs.Common.{◌∙◌}
use Rattle.flat_lists.proofs.VariantLemmas.{text-alone, text-whole}
use Rattle.flat_lists.proofs.variants.text_of.Goals as goal

pub returns-then-not-iframes-clause-text : goal.returns-then-not-iframes-clause-text
returns-then-not-iframes-clause-text c = text-alone c.args.mapping.now c.in_ok-text.text.items c.args.iframes c.args.shown.now c.if-not-iframes.true c.in_ok-text.ensures.text

pub returns-clause-text : goal.returns-clause-text
returns-clause-text c =
    text-whole c.args.mapping.now c.extend_from_slice.new.self.items c.in_ok-text.text.items c.deref.result.now c.args.iframes c.args.shown.now c.if-not-iframes.false c.in_ok-text.ensures.text
    (c.deref.ensures.value ∙ c.in_ok-streams.ensures.text) c.in_ok-extend_from_slice.ensures.items
