-- Bodies that are made: they are the answer, and a step writes all of it.
use Rattle.std.proofs.Common.{◌≡◌, ◌≢◌, ℕ, ◌%◌, Bool, true, false, List, length, Option, Some, None, IfSome, IsTrue, refl, sym, ap, ◌∙◌, subst, lit<}
use Rattle.std.specs.Prelude.{is_none}
use Rattle.vod_types.specs.declared.paths.Ask.{Ask}
use Rattle.vod_types.specs.declared.paths.Leaf.{Leaf}
use Rattle.vod_types.specs.declared.paths.Leaf.TheVariants as leaves
use Rattle.vod_types.specs.declared.segments.Form.TheVariants.{Ts, Fmp4}
use Rattle.vod_types.specs.Settled.{Settled}
use Rattle.list_model.specs.Reply.{told_length}
use Rattle.vod_source.specs.declared.step.Step.{Step}
use Rattle.vod_source.specs.declared.step.Step.TheVariants.{Again, Whole, BadNal, SinkFailed}
use Rattle.vod_source.specs.Stored.{Files}
use Rattle.vod_source.specs.Told.{told_with, GrewByPrefix}
use Rattle.vod_source.proofs.CallLemmas.{told_all}
use Rattle.vod_http.specs.Answered.{Advances, HasLength, KeepsPackets}
use Rattle.vod_http.specs.declared.answerer.Reply.{Reply}
use Rattle.vod_http.specs.declared.answerer.Reply.TheVariants.{Body, Refused}
use Rattle.flat_segments.specs.declared.body.FlatBody.{FlatBody}
use Rattle.mp4_flat.specs.Flat.{is_stream}
use Rattle.vod_origin.specs.AnswerLaw.{has_length}
use Rattle.vod_origin.specs.Begun.{asked_answer, Begins, IsBegun, Replies}
use Rattle.vod_origin.specs.Bodies.{end_of, made_rest, rest_in}
use Rattle.vod_origin.specs.declared.cursor.Cursor.{Cursor}
use Rattle.vod_origin.specs.declared.cursor.Cursor.TheVariants.{Made, Fragment, Stream}
use Rattle.vod_origin.specs.declared.cursor.MadeBody.{MadeBody}
use Rattle.vod_origin.specs.Steps.{Steps}
use Rattle.vod_origin.proofs.ReplyLemmas.{IsAnswered, replied, rests}

-- ---- the reply

stream_unmeasured : (leaf : Leaf) (n : ℕ) → is_stream leaf ≡ is_none (told_length leaf n)
stream_unmeasured leaves.Master n = refl
stream_unmeasured leaves.Mpd n = refl
stream_unmeasured (leaves.Index sequence asked) n = refl
stream_unmeasured (leaves.Init part sequence asked) n = refl
stream_unmeasured (leaves.Segment number sequence asked Ts) n = refl
stream_unmeasured (leaves.Segment number sequence asked Fmp4) n = refl
stream_unmeasured (leaves.Iframes sequence video) n = refl
stream_unmeasured (leaves.Iframe number index sequence video) n = refl
stream_unmeasured (leaves.Clip sequence asked) n = refl

module _ (settings : Settled) (root : List ℕ) (ask : Ask) (content : Option Files) where
  -- with the bytes and the end that the answer has, where that is told
  module _ (body : FlatBody) (answered : IfSome content (IsAnswered settings root ask (λ files. body.bytes.items) (λ files. end_of body.cut))) where
    pub answered_replied : (before now : ℕ) (reply : Reply Cursor) → IsBegun ask.leaf body reply → Replies (asked_answer settings root ask content) before now reply
    answered_replied before now (Refused why) begun = absurd begun
    answered_replied before now (Body kind n part cursor) begun =
        let has : HasLength kind n = rw (begun.0, begun.1) (has_length ask.leaf (length body.bytes.items)) in
        replied settings root ask (λ files. body.bytes.items) (λ files. end_of body.cut) content before now kind n part cursor answered begun.0 has (told_all content _ (λ files. begun.1)) begun.2

    pub answered_begins : (reply : Reply Cursor) → IsBegun ask.leaf body reply → Begins (asked_answer settings root ask content) content reply
    answered_begins (Refused why) begun = absurd begun
    answered_begins (Body kind n part (Made b)) begun = record {
      belongs = tt;
      under_way = begun.3.waits;
      few = lit< tt;
      rest = rests settings root ask (λ files. body.bytes.items) (λ files. end_of body.cut) content (Made b) answered (told_all content _ (λ files. rw (begun.3.body, begun.3.waits) refl));
      in_packets = begun.3.in_packets ∙ stream_unmeasured ask.leaf (length body.bytes.items) ∙ ap is_none (sym begun.1);
    }
    answered_begins (Body kind n part (Fragment b)) begun = absurd begun.3
    answered_begins (Body kind n part (Stream b)) begun = absurd begun.3

-- ---- a step

-- the packets of a body that was written
packets_of : (in_packets : Bool) (bytes : List ℕ) (before now : Option (List ℕ)) → (in_packets ≡ true → length bytes % 188 ≡ 0) → now ≡ told_with before bytes
    → KeepsPackets in_packets before now Whole
packets_of false bytes before now packets grew = tt
packets_of true bytes before now packets grew = (bytes, grew, packets refl)

packets_cut : (in_packets : Bool) (bytes : List ℕ) (before now : Option (List ℕ)) (file sample : ℕ) → (in_packets ≡ true → length bytes % 188 ≡ 0) → now ≡ told_with before bytes
    → KeepsPackets in_packets before now (BadNal file sample)
packets_cut false bytes before now file sample packets grew = tt
packets_cut true bytes before now file sample packets grew = (bytes, grew, packets refl)

packets_failed : (in_packets : Bool) (before now : Option (List ℕ)) → KeepsPackets in_packets before now SinkFailed
packets_failed false before now = tt
packets_failed true before now = tt

module _ (content : Option Files) (c d : MadeBody) (before now : Option (List ℕ)) (waited : IsTrue c.waits) (written : d.waits ≡ false) (same : d.in_packets ≡ c.in_packets) where
  all : (made_rest c).0 ≡ c.body.bytes.items
  all = rw waited refl

  advances : (content : Option Files) (step : Step) → ((files : Files) → Advances (Some (made_rest c)) (rest_in content (Made d)) before now step)
      → Advances (rest_in content (Made c)) (rest_in content (Made d)) before now step
  advances None step h = tt
  advances (Some files) step h = h files

  ended : (step : Step) → step ≢ Again → Advances (rest_in content (Made c)) (rest_in content (Made d)) before now step → KeepsPackets c.in_packets before now step → Steps content (Made c) (Made d) before now step
  ended step known advances packets = record {
    belongs = tt;
    under_way = (λ under. absurd (by_waits d.waits written under), λ again. absurd (known again));
    fewer = λ again. absurd (known again);
    advances = advances;
    in_packets = same;
    packets = packets;
  }
    where
      by_waits : (b : Bool) → b ≡ false → IsTrue b → ⊥
      by_waits false is under = cc
      by_waits true is under = cc

  pub wrote_whole : c.body.cut ≡ None → now ≡ told_with before c.body.bytes.items → Steps content (Made c) (Made d) before now Whole
  wrote_whole none grew =
      ended Whole (λ again. cc) (advances content Whole (λ files. (ap end_of none, grew ∙ ap (told_with before) (sym all))))
      (packets_of c.in_packets c.body.bytes.items before now c.packets grew)

  pub wrote_cut : (file sample : ℕ) → c.body.cut ≡ Some (file, sample) → now ≡ told_with before c.body.bytes.items → Steps content (Made c) (Made d) before now (BadNal file sample)
  wrote_cut file sample some grew =
      ended (BadNal file sample) (λ again. cc) (advances content (BadNal file sample) (λ files. (ap end_of some, grew ∙ ap (told_with before) (sym all))))
      (packets_cut c.in_packets c.body.bytes.items before now file sample c.packets grew)

  pub wrote_part : GrewByPrefix before now c.body.bytes.items → Steps content (Made c) (Made d) before now SinkFailed
  wrote_part grew =
      ended SinkFailed (λ again. cc) (advances content SinkFailed (λ files. subst (GrewByPrefix before now) (sym all) grew)) (packets_failed c.in_packets before now)
