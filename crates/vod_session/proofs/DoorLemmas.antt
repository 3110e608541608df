-- The links of a door that are served one after another.
use Rattle.std.proofs.Common.{◌≡◌, ℕ, ◌+◌, ◌-◌, ◌≤◌, ◌<◌, ◌≢◌, Bool, true, false, List, [], ◌∷◌, ◌++◌, length-append, Option, Some, None, refl, sym, ap, ◌∙◌, subst, append_assoc, append-nil, arith}
use Rattle.std.specs.Prelude.{option_map}
use Rattle.list_model.specs.Exchange.{IsServed}
use Rattle.list_model.specs.declared.Why.{Why}
use Rattle.list_model.specs.declared.Why.TheVariants as why
use Rattle.vod_session.specs.declared.doors.DoorEnd.{DoorEnd}
use Rattle.vod_session.specs.declared.doors.DoorEnd.TheVariants as ends
use Rattle.vod_session.specs.declared.state.LinkEnd.{LinkEnd}
use Rattle.vod_session.specs.Steps.{Answers}
use Rattle.vod_session.specs.Calls.{IsToldServed}
use Rattle.vod_session.specs.Doors.{AreServedInOrder, ServesDoor, ServesUpTo, is_out_of_memory}

-- the same of a count that was lower before
served_from : (answer : Answers) (input text : List ℕ) (requests : ℕ) (w : Why) (earlier before now : ℕ) → earlier ≤ before →
    IsServed answer input text requests w before now → IsServed answer input text requests w earlier now
served_from answer input text requests w earlier before now below served =
    record {
      turns = served.turns;
      rest = served.rest;
      turns_are = served.turns_are;
      allowed = served.allowed;
      faults = λ small. let counted = served.faults small in omega arith;
      counted = served.counted;
      no_more = served.no_more;
      heads = served.heads;
      replies = served.replies;
      whole_unless_link_failed = served.whole_unless_link_failed;
    }

told_from : (answer : Answers) (left written written_now : Option (List ℕ)) (end : LinkEnd) (earlier before now : ℕ) → earlier ≤ before →
    IsToldServed answer left written written_now end before now → IsToldServed answer left written written_now end earlier now
told_from answer left written written_now end earlier before now below told = λ input text left_is written_is memory.
    let wrote = told input text left_is written_is memory in (
      wrote.0,
      wrote.1,
      served_from answer input wrote.0 end.requests end.why earlier before now below wrote.2,
    )

module _ {L : Type 0} (answer : Answers) (left written : L → Option (List ℕ)) where
  pub in_order_from : (memory : Bool) (links backs : List L) (earlier before now : ℕ) → earlier ≤ before →
      AreServedInOrder answer left written memory links backs before now → AreServedInOrder answer left written memory links backs earlier now
  in_order_from memory [] [] earlier before now below later = omega arith
  in_order_from memory [] (back ∷ backs) earlier before now below are = are
  in_order_from memory (link ∷ links) [] earlier before now below are = are
  in_order_from memory (link ∷ links) (back ∷ backs) earlier before now below are = (
    are.0,
    are.1,
    told_from answer (left link) (written link) (written back) are.0 earlier before are.1 below are.2,
    are.3,
    are.4,
  )

  -- links that were served, and then more
  in_order_more : (memory : Bool) (links backs links_2 backs_2 : List L) (before between now : ℕ) → AreServedInOrder answer left written false links backs before between →
      AreServedInOrder answer left written memory links_2 backs_2 between now → AreServedInOrder answer left written memory (links ++ links_2) (backs ++ backs_2) before now
  in_order_more memory [] [] links_2 backs_2 before between now later more = in_order_from memory links_2 backs_2 before between now later more
  in_order_more memory [] (back ∷ backs) links_2 backs_2 before between now are more = absurd are
  in_order_more memory (link ∷ links) [] links_2 backs_2 before between now are more = absurd are
  in_order_more memory (link ∷ links) (back ∷ backs) links_2 backs_2 before between now are more = (
    are.0,
    are.1,
    are.2,
    λ none. absurd (let last = are.3 none in let found : false ≡ true = last.2 in cc),
    in_order_more memory links backs links_2 backs_2 are.1 between now are.4 more,
  )

  -- a door that did nothing
  pub door_same : (coming coming_now returned returned_now : Option (List L)) (out out_now : Option ℕ) (memory : Bool) (faults faults_now : ℕ) → coming_now ≡ coming → returned_now ≡ returned → out_now ≡ out →
      faults ≤ faults_now → ServesDoor answer left written coming coming_now returned returned_now out out_now 0 memory faults faults_now
  door_same coming coming_now returned returned_now out out_now memory faults faults_now c r o later =
      record {
        out_is = o;
        links = λ all before all_is before_is. ([], [], all, refl, c ∙ all_is, r ∙ before_is ∙ ap Some (sym (append-nil before)), refl, later);
      }

module _ {L : Type 0} {answer : Answers} {left written : L → Option (List ℕ)} {coming coming_mid coming_now returned returned_mid returned_now : Option (List L)} {out out_now : Option ℕ} where
  -- a link that was served
  pub door_one : (link back : L) (end : LinkEnd) (memory : Bool) {faults faults_now : ℕ} → coming ≡ option_map (λ rest. link ∷ rest) coming_mid → coming_now ≡ coming_mid → returned_mid ≡ returned →
      returned_now ≡ option_map (λ before. before ++ back ∷ []) returned_mid → out_now ≡ out → IsToldServed answer (left link) (written link) (written back) end faults faults_now →
      (end.why ≡ why.NoMemory → (back ≡ link) × (memory ≡ true)) → ServesDoor answer left written coming coming_now returned returned_now out out_now 1 memory faults faults_now
  door_one link back end memory {faults = faults} {faults_now = faults_now} given coming_is returned_is gave out_is told none =
      record {
        out_is = out_is;
        links = λ all before all_is before_is.
            let split = split_first link all coming_mid (sym given ∙ all_is) in (
              link ∷ [],
              back ∷ [],
              split.0,
              split.1,
              coming_is ∙ split.2,
              gave ∙ ap (λ (told : Option (List L)). option_map (λ (before : List L). before ++ back ∷ []) told) (returned_is ∙ before_is),
              refl,
              (end, faults_now, told, λ found. let same = none found in (same.0, refl, same.1), refl_le faults_now),
            );
      }
    where
      split_first : (link : L) (all : List L) (mid : Option (List L)) → option_map (λ (rest : List L). link ∷ rest) mid ≡ Some all → (rest : List L) × (all ≡ link ∷ rest) × (mid ≡ Some rest)
      split_first link all None e = absurd cc
      split_first link all (Some rest) e = let same : link ∷ rest ≡ all = cc in (rest, sym same, refl)

      refl_le : (n : ℕ) → n ≤ n
      refl_le n = omega arith

module _ {L : Type 0} {answer : Answers} {left written : L → Option (List ℕ)} {coming coming_mid coming_now returned returned_mid returned_now : Option (List L)} {out out_mid out_now : Option ℕ} where
  -- links of a door that were served, and then more
  pub door_more : (n k : ℕ) (memory : Bool) {faults faults_mid faults_now : ℕ} →
      ServesDoor answer left written coming coming_mid returned returned_mid out out_mid n false faults faults_mid →
      ServesDoor answer left written coming_mid coming_now returned_mid returned_now out_mid out_now k memory faults_mid faults_now →
      ServesDoor answer left written coming coming_now returned returned_now out out_now (n + k) memory faults faults_now
  door_more n k memory {faults = faults} {faults_mid = faults_mid} {faults_now = faults_now} first second =
      record {
        out_is = second.out_is ∙ first.out_is;
        links = λ all before all_is before_is.
            let one = first.links all before all_is before_is in
            let two = second.links one.2 (before ++ one.1) one.4 one.5 in (
              one.0 ++ two.0,
              one.1 ++ two.1,
              two.2,
              one.3 ∙ ap (λ (rest : List L). one.0 ++ rest) two.3 ∙ sym (append_assoc one.0 two.0 two.2),
              two.4,
              two.5 ∙ ap (λ (links : List L). Some links) (append_assoc before one.1 two.1),
              length-append one.0 two.0 ∙ omega (arith, one.6, two.6),
              in_order_more answer left written memory one.0 one.1 two.0 two.1 faults faults_mid faults_now one.7 two.7,
            );
      }

  -- one link more
  pub one_more : (n : ℕ) {faults faults_mid faults_now : ℕ} → ServesDoor answer left written coming coming_mid returned returned_mid out out_mid n false faults faults_mid →
      ServesUpTo answer left written coming_mid coming_now returned_mid returned_now out_mid out_now 1 ends.Served faults_mid faults_now →
      ServesDoor answer left written coming coming_now returned returned_now out out_now (n + 1) false faults faults_now
  one_more n {faults = faults} {faults_now = faults_now} first second =
      subst (λ k. ServesDoor answer left written coming coming_now returned returned_now out out_now (n + k) false faults faults_now) (second.all refl)
      (door_more n second.served false first second.door)

  -- the last link that came, or none where the door failed
  pub one_last : (n count : ℕ) (end : DoorEnd) {faults faults_mid faults_now : ℕ} → n < count → end ≢ ends.Served →
      ServesDoor answer left written coming coming_mid returned returned_mid out out_mid n false faults faults_mid →
      ServesUpTo answer left written coming_mid coming_now returned_mid returned_now out_mid out_now 1 end faults_mid faults_now →
      ServesUpTo answer left written coming coming_now returned returned_now out out_now count end faults faults_now
  one_last n count end below other first second =
      record {
        served = n + second.served;
        within = let few = second.within in omega arith;
        all = λ e. absurd (other e);
        door = door_more n second.served (is_out_of_memory end) first second.door;
      }

-- ---- a door that serves so many

-- the same of a count that was lower before
pub up_to_from : {L : Type 0} {answer : Answers} {left written : L → Option (List ℕ)} {coming coming_now returned returned_now : Option (List L)} {out out_now : Option ℕ} {count : ℕ} {end : DoorEnd}
    {earlier faults faults_now : ℕ} → earlier ≤ faults → ServesUpTo answer left written coming coming_now returned returned_now out out_now count end faults faults_now
    → ServesUpTo answer left written coming coming_now returned returned_now out out_now count end earlier faults_now
up_to_from {answer = answer} {left = left} {written = written} {end = end} {earlier = earlier} {faults = faults} {faults_now = faults_now} below does =
    record {
      served = does.served;
      within = does.within;
      all = does.all;
      door = record {
        out_is = does.door.out_is;
        links = λ all before all_is before_is.
            let found = does.door.links all before all_is before_is in (
              found.0,
              found.1,
              found.2,
              found.3,
              found.4,
              found.5,
              found.6,
              in_order_from answer left written (is_out_of_memory end) found.0 found.1 earlier faults faults_now below found.7,
            );
      };
    }

-- all links that were asked for
pub up_to_all : {L : Type 0} {answer : Answers} {left written : L → Option (List ℕ)} {coming coming_now returned returned_now : Option (List L)} {out out_now : Option ℕ} {count faults faults_now : ℕ} →
    ServesDoor answer left written coming coming_now returned returned_now out out_now count false faults faults_now →
    ServesUpTo answer left written coming coming_now returned returned_now out out_now count ends.Served faults faults_now
up_to_all {count = count} does = record { served = count; within = omega arith; all = λ e. refl; door = does }

-- none
pub up_to_none : {L : Type 0} {answer : Answers} {left written : L → Option (List ℕ)} {coming coming_now returned returned_now : Option (List L)} {out out_now : Option ℕ} (count : ℕ) (end : DoorEnd)
    {faults faults_now : ℕ} → end ≢ ends.Served → coming_now ≡ coming → returned_now ≡ returned → out_now ≡ out → faults ≤ faults_now →
    ServesUpTo answer left written coming coming_now returned returned_now out out_now count end faults faults_now
up_to_none {answer = answer} {left = left} {written = written} {coming = coming} {coming_now = coming_now} {returned = returned} {returned_now = returned_now} {out = out} {out_now = out_now} count end
    {faults = faults} {faults_now = faults_now} other c r o later =
    record {
      served = 0;
      within = omega arith;
      all = λ e. absurd (other e);
      door = door_same answer left written coming coming_now returned returned_now out out_now (is_out_of_memory end) faults faults_now c r o later;
    }

-- how many links are out behind one that came and was given back
pub out_again : (out out_mid out_now : Option ℕ) → out_mid ≡ option_map (λ n. n + 1) out → out_now ≡ option_map (λ n. n - 1) out_mid → out_now ≡ out
out_again None None None more fewer = refl
out_again None None (Some n) more fewer = absurd cc
out_again None (Some m) out_now more fewer = absurd cc
out_again (Some k) None out_now more fewer = absurd cc
out_again (Some k) (Some m) None more fewer = absurd cc
out_again (Some k) (Some m) (Some n) more fewer = let up : m ≡ k + 1 = cc in let down : n ≡ m - 1 = cc in ap (λ i. Some i) (omega arith)
