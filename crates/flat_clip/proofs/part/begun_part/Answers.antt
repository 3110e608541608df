use Rattle.std.proofs.Common.{◌≡◌, ◌+◌, map, sym, ap, ap₂, ◌∙◌, arith}
use Rattle.media_model.specs.Clip.{clip_size, media_start, placed_from, placed_rows}
use Rattle.media_model.specs.Fragment.{sizes}
use Rattle.media_model.specs.WritingOrder.{writing_order}
use Rattle.flat_clip.specs.Parts.{first_fault}
use Rattle.flat_clip.specs.Rows.{facts_of}
use Rattle.flat_clip.specs.Tracks.{placed_view}
use Rattle.flat_clip.proofs.PartCalls.{part-faulty, part-sound, part-unasked}
use Rattle.flat_clip.proofs.part.begun_part.Goals as goal

pub returns-in-Err-clause-fault : goal.returns-in-Err-clause-fault
returns-in-Err-clause-fault c = λ other.
    let f = facts_of c.args.rows.now in
    let start = c.media_start-start.ensures.start in
    let video : c.bytes_of.result ≡ sizes f.video.rows = c.bytes_of.ensures.bytes ∙ ap sizes c.deref.ensures.value in
    let audio : c.bytes_of-2.result ≡ sizes f.audio.rows = c.bytes_of-2.ensures.bytes ∙ ap sizes c.deref-2.ensures.value in
    let length : c.media_start-start.result + (c.bytes_of.result + c.bytes_of-2.result) ≡ clip_size f.video f.audio = omega (arith, start, video, audio) in
    part-unasked c.args.range f _ length c.in-Err.refusal (sym c.asked_part.ensures.part ∙ c.in-Err.is)

pub returns-in-Err-check_samples-clause-fault : goal.returns-in-Err-check_samples-clause-fault
returns-in-Err-check_samples-clause-fault c = λ other.
    let f = facts_of c.args.rows.now in
    let start = c.media_start-start.ensures.start in
    let video : c.bytes_of.result ≡ sizes f.video.rows = c.bytes_of.ensures.bytes ∙ ap sizes c.deref.ensures.value in
    let audio : c.bytes_of-2.result ≡ sizes f.audio.rows = c.bytes_of-2.ensures.bytes ∙ ap sizes c.deref-2.ensures.value in
    let length : c.media_start-start.result + (c.bytes_of.result + c.bytes_of-2.result) ≡ clip_size f.video f.audio = omega (arith, start, video, audio) in
    let are : map placed_view c.deref-5.result.now ≡ placed_rows f.video f.audio =
    ap (map placed_view) c.deref-5.ensures.value ∙ c.in-Ok-placed_samples.ensures
    ∙ ap (λ n. placed_from n (writing_order c.deref-3.result.now c.deref-4.result.now)) start
    ∙ ap₂ (λ v a. placed_from (media_start f.video f.audio) (writing_order v a)) c.deref-3.ensures.value c.deref-4.ensures.value in
    part-faulty c.args.range f _ length c.in-Ok.part (sym c.asked_part.ensures.part ∙ c.in-Ok.is) (map placed_view c.deref-5.result.now) are c.in-Err-check_samples.refusal
    (ap (λ name. first_fault name c.in-Ok.part f.size (map placed_view c.deref-5.result.now)) (sym c.as_str.ensures) ∙ c.in-Err-check_samples.ensures.fault other)

pub returns-in-Ok-front_part-clause-part : goal.returns-in-Ok-front_part-clause-part
returns-in-Ok-front_part-clause-part c =
    let f = facts_of c.args.rows.now in
    let start = c.media_start-start.ensures.start in
    let video : c.bytes_of.result ≡ sizes f.video.rows = c.bytes_of.ensures.bytes ∙ ap sizes c.deref.ensures.value in
    let audio : c.bytes_of-2.result ≡ sizes f.audio.rows = c.bytes_of-2.ensures.bytes ∙ ap sizes c.deref-2.ensures.value in
    let length : c.media_start-start.result + (c.bytes_of.result + c.bytes_of-2.result) ≡ clip_size f.video f.audio = omega (arith, start, video, audio) in
    let are : map placed_view c.deref-5.result.now ≡ placed_rows f.video f.audio =
    ap (map placed_view) c.deref-5.ensures.value ∙ c.in-Ok-placed_samples.ensures
    ∙ ap (λ n. placed_from n (writing_order c.deref-3.result.now c.deref-4.result.now)) start
    ∙ ap₂ (λ v a. placed_from (media_start f.video f.audio) (writing_order v a)) c.deref-3.ensures.value c.deref-4.ensures.value in
    part-sound c.args.range f _ length c.in-Ok.part (sym c.asked_part.ensures.part ∙ c.in-Ok.is) (map placed_view c.deref-5.result.now) are
    (ap (λ name. first_fault name c.in-Ok.part f.size (map placed_view c.deref-5.result.now)) (sym c.as_str.ensures) ∙ c.in-Ok-check_samples.ensures.sound)
