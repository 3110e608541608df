use Rattle.std.proofs.Common.{◌+◌, ◌≤◌, length, refl, sym, ap, ◌∙◌, subst, arith}
use Rattle.std.proofs.lemmas.List.{length-map}
use Rattle.vod_types.specs.declared.tracks.Kind.TheVariants.{Video, Audio}
use Rattle.vod_types.specs.Tracks.{lead_of}
use Rattle.media_model.specs.Fragment.{sizes}
use Rattle.origin_model.specs.Sources.{source_piece}
use Rattle.flat_samples.specs.Checks.{checked_view}
use Rattle.flat_samples.specs.Rows.{part_rows, timed_view}
use Rattle.flat_clip.proofs.DueClips.{due-counts, due-large, due-clip, written-is, few-is, bytes-is, facts-are, small-clip}
use Rattle.flat_clip.proofs.PieceLemmas.{rows-alone, rows-first}
use Rattle.flat_clip.proofs.rows.checked_clip.Goals as goal

pub returns-in-Err-check_counts-clause-answers : goal.returns-in-Err-check_counts-clause-answers
returns-in-Err-check_counts-clause-answers c = λ other.
    let c_piece = checked_view c.args.piece.now c.args.tracks.now in
    let found = rows-alone _ (part_rows c.add.new.self) (source_piece c_piece) c.new-rows.ensures c.in-Ok.ensures.rows in
    due-counts c.args.sequence c.args.asked c_piece (part_rows c.add.new.self) c.in-Err-check_counts.refusal found (sym c.check_counts.ensures.answers ∙ c.in-Err-check_counts.is)

pub written-requires-clause-first : goal.written-requires-clause-first
written-requires-clause-first c =
    let c_piece = checked_view c.args.piece.now c.args.tracks.now in
    let found = rows-alone _ (part_rows c.add.new.self) (source_piece c_piece) c.new-rows.ensures c.in-Ok.ensures.rows in
    rows-first (lead_of c.args.asked) Video (part_rows c.add.new.self) (source_piece c_piece) _ found c.samples_of.ensures.samples

pub written-requires-2-clause-first : goal.written-requires-2-clause-first
written-requires-2-clause-first c =
    let c_piece = checked_view c.args.piece.now c.args.tracks.now in
    let found = rows-alone _ (part_rows c.add.new.self) (source_piece c_piece) c.new-rows.ensures c.in-Ok.ensures.rows in
    rows-first (lead_of c.args.asked) Audio (part_rows c.add.new.self) (source_piece c_piece) _ found c.samples_of-2.ensures.samples

pub bytes_of-requires : goal.bytes_of-requires
bytes_of-requires c =
    let c_piece = checked_view c.args.piece.now c.args.tracks.now in
    let found = rows-alone _ (part_rows c.add.new.self) (source_piece c_piece) c.new-rows.ensures c.in-Ok.ensures.rows in
    let lead : length (part_rows c.add.new.self).lead ≤ 2000000 = omega (arith, length-map c.add.new.self.lead.items timed_view, c.in-Ok-check_counts.ensures.lead) in
    let other : length (part_rows c.add.new.self).other ≤ 2000000 = omega (arith, length-map c.add.new.self.other.items timed_view, c.in-Ok-check_counts.ensures.other) in
    subst (λ rows. length rows ≤ 2000000) (sym c.deref.ensures.value) (few-is c.args.asked c_piece (part_rows c.add.new.self) found Video _ _ lead other c.samples_of.ensures.samples c.in-Ok-written.ensures.rows)

pub bytes_of-requires-2 : goal.bytes_of-requires-2
bytes_of-requires-2 c =
    let c_piece = checked_view c.args.piece.now c.args.tracks.now in
    let found = rows-alone _ (part_rows c.add.new.self) (source_piece c_piece) c.new-rows.ensures c.in-Ok.ensures.rows in
    let lead : length (part_rows c.add.new.self).lead ≤ 2000000 = omega (arith, length-map c.add.new.self.lead.items timed_view, c.in-Ok-check_counts.ensures.lead) in
    let other : length (part_rows c.add.new.self).other ≤ 2000000 = omega (arith, length-map c.add.new.self.other.items timed_view, c.in-Ok-check_counts.ensures.other) in
    subst (λ rows. length rows ≤ 2000000) (sym c.deref-2.ensures.value) (few-is c.args.asked c_piece (part_rows c.add.new.self) found Audio _ _ lead other c.samples_of-2.ensures.samples c.in-Ok-written-2.ensures.rows)

pub returns-then-bytes-gt1099511627776-clause-answers : goal.returns-then-bytes-gt1099511627776-clause-answers
returns-then-bytes-gt1099511627776-clause-answers c = λ other.
    let c_piece = checked_view c.args.piece.now c.args.tracks.now in
    let found = rows-alone _ (part_rows c.add.new.self) (source_piece c_piece) c.new-rows.ensures c.in-Ok.ensures.rows in
    let video = written-is c.args.asked c_piece (part_rows c.add.new.self) found Video _ _ c.samples_of.ensures.samples c.in-Ok-written.ensures.rows in
    let audio = written-is c.args.asked c_piece (part_rows c.add.new.self) found Audio _ _ c.samples_of-2.ensures.samples c.in-Ok-written-2.ensures.rows in
    let bytes = bytes-is c.args.sequence c.args.asked c_piece _ _ video audio c.bytes_of.result c.bytes_of-2.result (c.bytes_of.ensures.bytes ∙ ap sizes c.deref.ensures.value) (c.bytes_of-2.ensures.bytes ∙ ap sizes c.deref-2.ensures.value) in
    due-large c.args.sequence c.args.asked c_piece (part_rows c.add.new.self) c.in-Ok-check_counts.field-0 (c.bytes_of.result + c.bytes_of-2.result) found
    (sym c.check_counts.ensures.answers ∙ c.in-Ok-check_counts.is) bytes c.if-bytes-gt1099511627776.true

pub returns-in-Ok-new-clause-answers : goal.returns-in-Ok-new-clause-answers
returns-in-Ok-new-clause-answers c =
    let c_piece = checked_view c.args.piece.now c.args.tracks.now in
    let found = rows-alone _ (part_rows c.add.new.self) (source_piece c_piece) c.new-rows.ensures c.in-Ok.ensures.rows in
    let video = written-is c.args.asked c_piece (part_rows c.add.new.self) found Video _ _ c.samples_of.ensures.samples c.in-Ok-written.ensures.rows in
    let audio = written-is c.args.asked c_piece (part_rows c.add.new.self) found Audio _ _ c.samples_of-2.ensures.samples c.in-Ok-written-2.ensures.rows in
    let bytes = bytes-is c.args.sequence c.args.asked c_piece _ _ video audio c.bytes_of.result c.bytes_of-2.result (c.bytes_of.ensures.bytes ∙ ap sizes c.deref.ensures.value) (c.bytes_of-2.ensures.bytes ∙ ap sizes c.deref-2.ensures.value) in
    due-clip c.args.sequence c.args.asked c_piece (part_rows c.add.new.self) c.in-Ok-check_counts.field-0 (c.bytes_of.result + c.bytes_of-2.result) found
    (sym c.check_counts.ensures.answers ∙ c.in-Ok-check_counts.is) bytes c.if-bytes-gt1099511627776.false
    ∙ facts-are c.args.sequence c.args.asked c_piece _ _ video audio _ _ c.in-Ok-held_track.ensures c.in-Ok-held_track-2.ensures c.in-Ok-new.name c.args.tracks.now.file_size
    (c.in-Ok-new.ensures.name ∙ c.as_str.ensures) refl

pub returns-in-Ok-new-clause-small : goal.returns-in-Ok-new-clause-small
returns-in-Ok-new-clause-small c =
    let c_piece = checked_view c.args.piece.now c.args.tracks.now in
    let found = rows-alone _ (part_rows c.add.new.self) (source_piece c_piece) c.new-rows.ensures c.in-Ok.ensures.rows in
    let video = written-is c.args.asked c_piece (part_rows c.add.new.self) found Video _ _ c.samples_of.ensures.samples c.in-Ok-written.ensures.rows in
    let audio = written-is c.args.asked c_piece (part_rows c.add.new.self) found Audio _ _ c.samples_of-2.ensures.samples c.in-Ok-written-2.ensures.rows in
    let bytes = bytes-is c.args.sequence c.args.asked c_piece _ _ video audio c.bytes_of.result c.bytes_of-2.result (c.bytes_of.ensures.bytes ∙ ap sizes c.deref.ensures.value) (c.bytes_of-2.ensures.bytes ∙ ap sizes c.deref-2.ensures.value) in
    let lead : length (part_rows c.add.new.self).lead ≤ 2000000 = omega (arith, length-map c.add.new.self.lead.items timed_view, c.in-Ok-check_counts.ensures.lead) in
    let other : length (part_rows c.add.new.self).other ≤ 2000000 = omega (arith, length-map c.add.new.self.other.items timed_view, c.in-Ok-check_counts.ensures.other) in
    small-clip c.args.sequence c.args.asked c_piece _ _ video audio _ _ c.in-Ok-held_track.ensures c.in-Ok-held_track-2.ensures
    (few-is c.args.asked c_piece (part_rows c.add.new.self) found Video _ _ lead other c.samples_of.ensures.samples c.in-Ok-written.ensures.rows)
    (few-is c.args.asked c_piece (part_rows c.add.new.self) found Audio _ _ lead other c.samples_of-2.ensures.samples c.in-Ok-written-2.ensures.rows)
    c.requires.sound c.in-Ok-written.ensures.each c.in-Ok-written-2.ensures.each c.in-Ok-new.name c.args.tracks.now.file_size (c.bytes_of.result + c.bytes_of-2.result) bytes c.if-bytes-gt1099511627776.false
