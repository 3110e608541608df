-- What a call of the answerer sends, from what it writes.
use Rattle.std.proofs.Common.{◌≡◌, ℕ, ◌%◌, Bool, true, false, Option, Some, None, List, [], ◌++◌, length, drop, refl, sym, ap, ◌∙◌, subst, arith, append_assoc}
use Rattle.std.proofs.lemmas.List.{append-nil}
use Rattle.std.proofs.lemmas.Option.{same_Some}
use Rattle.std.proofs.Math.Seq.{drop-append_seam}
use Rattle.std.proofs.Math.Logic.{∥∥₁_elim, ∥∥₁_map}
use Rattle.std.proofs.Props.{props}
use Rattle.list_model.specs.Reply.{End, whole}
use Rattle.vod_source.specs.Told.{told_with, GrewByPrefix}
use Rattle.vod_source.specs.declared.step.Step.{Step}
use Rattle.vod_source.specs.declared.step.Step.TheVariants.{Again, Whole, BadNal, StoreFailed, SinkFailed}
use Rattle.vod_http.specs.Answered.{Rest, Advances, KeepsPackets}
use Rattle.vod_session.specs.Bodies.{IsFrontSent, SendsOf, Sends, EndsOf, Ends}
use Rattle.vod_session.specs.Chunks.{unpacked, came, IsChunked, IsChunkedOn, came_on}
use Rattle.vod_session.specs.Steps.{sent_as, end_sent}
use Rattle.vod_session.proofs.ChunkLemmas.{came_told, all_sent, front_sent}

-- ---- as it is

front_of : (text : List ℕ) (bytes : List ℕ) (now : Option (List ℕ)) → GrewByPrefix (Some text) now bytes → IsFrontSent false bytes text now
front_of text bytes now grew = (grew.front, grew.back, grew.grew, sym grew.split)

plain : (r : Rest) (after now : Option _) (text : List ℕ) (step : Step) → Advances (Some r) after (Some text) now step → SendsOf false r after text now step
plain r after now text Again did = (did.0, did.1, did.2, λ chunked. absurd cc, did.3, did.4)
plain r after now text Whole did = did
plain r after now text (BadNal file sample) did = did
plain r after now text StoreFailed did = front_of text r.0 now did
plain r after now text SinkFailed did = front_of text r.0 now did

pub sends_plain : (rest after : Option Rest) (written now : Option (List ℕ)) (step : Step) → Advances rest after written now step → Sends false rest after written now step
sends_plain rest after written now step did = λ r text rest_is written_is.
    plain r after now text step
    (subst (λ (w : Option (List ℕ)). Advances (Some r) after w now step) written_is (subst (λ (o : Option Rest). Advances o after written now step) rest_is did))

-- ---- in chunks

came_none : (text : List ℕ) → came_on (Some text) (Some text) 0 [] ≡ Some []
unfolding unpacked
came_none text =
    ap (λ (t : List ℕ). came_on (Some text) (Some t) 0 []) (sym (append-nil text)) ∙ came_told text [] 0 []

-- what was written behind a text
abbrev behind : List ℕ → Option (List ℕ) → List ℕ
behind text None = []
behind text (Some all) = drop (length text) all

behind_is : (text : List ℕ) (now : Option (List ℕ)) (sent : List ℕ) → now ≡ Some (text ++ sent) → behind text now ≡ sent
behind_is text now sent is = ap (behind text) is ∙ drop-append_seam text sent

module _ (text : List ℕ) (now : Option (List ℕ)) (parity : ℕ) (held : List ℕ) (is : ∥ IsChunkedOn (Some text) now parity held ∥₁) where
  now_is : now ≡ Some (text ++ behind text now)
  now_is = ∥∥₁_elim is (Prim.hlevel props) (λ (sent, sent_is, chunks). sent_is ∙ ap (λ (s : List ℕ). Some (text ++ s)) (sym (behind_is text now sent sent_is)))

  are_chunks : ∥ IsChunked parity held (behind text now) ∥₁
  are_chunks = ∥∥₁_map is (λ (sent, sent_is, chunks). subst (IsChunked parity held) (sym (behind_is text now sent sent_is)) chunks)

  came_now : came_on (Some text) now parity held ≡ Some (came parity held (behind text now))
  came_now = ap (λ (o : Option (List ℕ)). came_on (Some text) o parity held) now_is ∙ came_told text (behind text now) parity held

  -- what the answerer wrote is what came
  came_front : (before : Option (List ℕ)) (front : List ℕ) → before ≡ Some [] → came_on (Some text) now parity held ≡ told_with before front → came parity held (behind text now) ≡ front
  came_front before front none grew = same_Some _ _ (sym came_now ∙ grew ∙ ap (λ (o : Option (List ℕ)). told_with o front) none)

  -- whole packets came, and all were sent
  sent_all : (before : Option (List ℕ)) (front other : List ℕ) → before ≡ Some [] → (length held ≡ 188 → ⊥) → came_on (Some text) now parity held ≡ told_with before front →
      came_on (Some text) now parity held ≡ told_with before other → length other % 188 ≡ 0 → (length front % 188 ≡ 0) × (now ≡ Some (text ++ sent_as true front))
  sent_all before front other none space grew again packets =
      let came_is = came_front before front none grew in
      let same : front ≡ other = sym came_is ∙ came_front before other none again in
      let whole_packets : length front % 188 ≡ 0 = ap (λ (l : List ℕ). length l % 188) same ∙ packets in
      let came_packets : length (came parity held (behind text now)) % 188 ≡ 0 = ap (λ (l : List ℕ). length l % 188) came_is ∙ whole_packets in (
        whole_packets,
        now_is
            ∙ ap (λ (s : List ℕ). Some (text ++ s))
            (∥∥₁_elim are_chunks (Prim.hlevel props) (λ is. all_sent is (let fits = is.fits in omega (arith, space)) came_packets) ∙ ap (sent_as true) came_is),
      )

  -- a front came, and a front was sent
  sent_front : (before : Option (List ℕ)) (front back bytes : List ℕ) → before ≡ Some [] → came_on (Some text) now parity held ≡ told_with before front → bytes ≡ front ++ back →
      IsFrontSent true bytes text now
  sent_front before front back bytes none grew split =
      let came_is = came_front before front none grew in
      let all : came parity held (behind text now) ++ back ≡ bytes = ap (λ (l : List ℕ). l ++ back) came_is ∙ sym split in
      let sent = behind text now in (
        sent,
        drop (length sent) (sent_as true bytes),
        now_is,
        ∥∥₁_elim are_chunks (Prim.hlevel props)
            (λ is.
            let next = front_sent is back in
            let text_is : sent ++ next.0 ≡ sent_as true bytes = next.1 ∙ ap (sent_as true) all in
            ap (λ (l : List ℕ). sent ++ drop (length sent) l) (sym text_is) ∙ ap (λ (l : List ℕ). sent ++ l) (drop-append_seam sent next.0) ∙ text_is),
      )

  -- by what the call came to
  module _ (r : Rest) (after : Option Rest) (before : Option (List ℕ)) (none : before ≡ Some []) where
    any_front : (step : Step) → Advances (Some r) after before (came_on (Some text) now parity held) step → IsFrontSent true r.0 text now
    any_front Again did = sent_front before did.0 did.1 r.0 none did.4 did.2
    any_front Whole did = sent_front before r.0 [] r.0 none did.1 (sym (append-nil r.0))
    any_front (BadNal file sample) did = sent_front before r.0 [] r.0 none did.1 (sym (append-nil r.0))
    any_front StoreFailed did = sent_front before did.front did.back r.0 none did.grew did.split
    any_front SinkFailed did = sent_front before did.front did.back r.0 none did.grew did.split

    in_chunks : (step : Step) → (length held ≡ 188 → ⊥) → Advances (Some r) after before (came_on (Some text) now parity held) step →
        KeepsPackets true before (came_on (Some text) now parity held) step → SendsOf true r after text now step
    in_chunks Again space did packets =
        let all = sent_all before did.0 packets.0 none space did.4 packets.1 packets.2 in (did.0, did.1, did.2, λ c. all.0, did.3, all.1)
    in_chunks Whole space did packets = (did.0, (sent_all before r.0 packets.0 none space did.1 packets.1 packets.2).1)
    in_chunks (BadNal file sample) space did packets = (did.0, (sent_all before r.0 packets.0 none space did.1 packets.1 packets.2).1)
    in_chunks StoreFailed space did packets = any_front StoreFailed did
    in_chunks SinkFailed space did packets = any_front SinkFailed did

-- where nothing of the body had come
module _
    (rest after : Option Rest) (base written now : Option (List ℕ)) (parity : ℕ) (held : List ℕ) (step : Step) (base_is : base ≡ written) (is : ∥ IsChunkedOn base now parity held ∥₁)
    (did : Advances rest after (came_on base written 0 []) (came_on base now parity held) step)
  where
    abbrev Did : Option (List ℕ) → Option (List ℕ) → Option Rest → Type 0
    Did b w o = (∥ IsChunkedOn b now parity held ∥₁) × Advances o after (came_on b w 0 []) (came_on b now parity held) step

    here : (r : Rest) (text : List ℕ) → rest ≡ Some r → written ≡ Some text → Did (Some text) (Some text) (Some r)
    here r text rest_is written_is =
        subst (λ (b : Option (List ℕ)). Did b (Some text) (Some r)) (base_is ∙ written_is) (subst (λ (w : Option (List ℕ)). Did base w (Some r)) written_is (subst (Did base written) rest_is (is, did)))

    pub sends_chunks : (length held ≡ 188 → ⊥) → KeepsPackets true (came_on base written 0 []) (came_on base now parity held) step → Sends true rest after written now step
    sends_chunks space packets = λ r text rest_is written_is.
        let h = here r text rest_is written_is in
        let kept : KeepsPackets true (came_on (Some text) (Some text) 0 []) (came_on (Some text) now parity held) step =
        subst (λ (b : Option (List ℕ)). KeepsPackets true (came_on b (Some text) 0 []) (came_on b now parity held) step) (base_is ∙ written_is)
        (subst (λ (w : Option (List ℕ)). KeepsPackets true (came_on base w 0 []) (came_on base now parity held) step) written_is packets) in
        in_chunks text now parity held h.0 r after (came_on (Some text) (Some text) 0 []) (came_none text) step space h.1 kept

    pub sends_cut : Sends true rest after written now SinkFailed
    sends_cut = λ r text rest_is written_is.
        let h = here r text rest_is written_is in
        any_front text now parity held h.0 r after (came_on (Some text) (Some text) 0 []) (came_none text) step h.1

-- on a link that a sink had borrowed
pub sends_through : {L : Type 0} (written_of : L → Option (List ℕ)) (now then_ : L) (chunked : Bool) (rest after : Option Rest) (written : Option (List ℕ)) (step : Step) →
    now ≡ then_ → Sends chunked rest after written (written_of then_) step → Sends chunked rest after written (written_of now) step
sends_through written_of now then_ chunked rest after written step same sends =
    subst (λ (link : _). Sends chunked rest after written (written_of link) step) (sym same) sends

-- nothing had come where a sink is new
pub none_came : {L : Type 0} (written_of : L → Option (List ℕ)) (base : Option (List ℕ)) (parity : ℕ) (held : List ℕ) (now then_ : L) → now ≡ then_ → parity ≡ 0 → held ≡ [] →
    came_on base (written_of now) parity held ≡ came_on base (written_of then_) 0 []
none_came written_of base parity held now then_ same even none =
    ap (λ (link : _). came_on base (written_of link) parity held) same
    ∙ ap (λ (p : ℕ). came_on base (written_of then_) p held) even
    ∙ ap (λ (h : List ℕ). came_on base (written_of then_) 0 h) none

-- ---- with what stands behind a whole body

module _ (chunked : Bool) (rest after : Option Rest) (written middle now : Option (List ℕ)) where
  pub whole_ends : Sends chunked rest after written middle Whole → now ≡ told_with middle (end_sent chunked whole) → Ends chunked rest after written now Whole
  whole_ends sends put = λ r text rest_is written_is.
      let sent = sends r text rest_is written_is in (
        sent.0,
        put
            ∙ ap (λ (m : Option (List ℕ)). told_with m (end_sent chunked whole)) sent.1
            ∙ ap (λ (t : List ℕ). Some t) (append_assoc text (sent_as chunked r.0) (end_sent chunked whole))
            ∙ ap (λ (e : End). Some (text ++ (sent_as chunked r.0 ++ end_sent chunked e))) (sym sent.0),
      )

  pub whole_cut : Sends chunked rest after written middle Whole → GrewByPrefix middle now (end_sent chunked whole) → Ends chunked rest after written now SinkFailed
  whole_cut sends put = λ r text rest_is written_is.
      let sent = sends r text rest_is written_is in
      let body = sent_as chunked r.0 in (
        body ++ put.front,
        put.back,
        put.grew
            ∙ ap (λ (m : Option (List ℕ)). told_with m put.front) sent.1
            ∙ ap (λ (t : List ℕ). Some t) (append_assoc text body put.front),
        append_assoc body put.front put.back
            ∙ ap (λ (t : List ℕ). body ++ t) (sym put.split)
            ∙ ap (λ (e : End). body ++ end_sent chunked e) (sym sent.0),
      )

not_whole : (chunked : Bool) (r : Rest) (after : Option Rest) (text : List ℕ) (now : Option (List ℕ)) (step : Step) → (step ≡ Whole → ⊥) → SendsOf chunked r after text now step → EndsOf chunked r after text now step
not_whole chunked r after text now Again other sent = sent
not_whole chunked r after text now Whole other sent = absurd (other refl)
not_whole chunked r after text now (BadNal file sample) other sent = sent
not_whole chunked r after text now StoreFailed other sent = sent
not_whole chunked r after text now SinkFailed other sent = (
  sent.0,
  sent.1 ++ end_sent chunked r.1,
  sent.2,
  sym (append_assoc sent.0 sent.1 (end_sent chunked r.1)) ∙ ap (λ (t : List ℕ). t ++ end_sent chunked r.1) sent.3,
)

pub other_ends : (chunked : Bool) (rest after : Option Rest) (written now : Option (List ℕ)) (step : Step) → (step ≡ Whole → ⊥) → Sends chunked rest after written now step → Ends chunked rest after written now step
other_ends chunked rest after written now step other sends = λ r text rest_is written_is. not_whole chunked r after text now step other (sends r text rest_is written_is)
