-- Links that come by a door and are given back.
use Rattle.std.proofs.Common.{◌≡◌, ℕ, ◌+◌, ◌-◌, ◌≤◌, List, [], ◌∷◌, ◌++◌, length, length-append, Option, Some, None, refl, sym, ap, ◌∙◌, append_assoc, append-nil, arith}
use Rattle.std.specs.Prelude.{IfSome, option_map}
use Rattle.vod_source.specs.Told.{told_with}
use Rattle.vod_source.proofs.ToldLemmas.{told_with-append}
use Rattle.vod_session.specs.declared.state.LinkEnd.{LinkEnd}
use Rattle.vod_session.specs.Steps.{Answers}
use Rattle.vod_turns.specs.Turns.{AreServed}
use Rattle.vod_turns.specs.Doors.{AreOut, LeavesDoor, ServesDoorInTurns}

-- ---- links that are given back

split_coming : {L : Type 0} (came all : List L) (coming_now : Option (List L)) → option_map (λ (rest : List L). came ++ rest) coming_now ≡ Some all
    → (rest : List L) × (all ≡ came ++ rest) × (coming_now ≡ Some rest)
split_coming came all None e = absurd cc
split_coming {L} came all (Some rest) e = let same : came ++ rest ≡ all = cc in (rest, sym same, refl)

fewer_out : (out out_mid : Option ℕ) (many few : ℕ) → few ≡ many → out_mid ≡ option_map (λ n. n + many) out → option_map (λ n. n - few) out_mid ≡ out
fewer_out None None many few long e = refl
fewer_out None (Some n) many few long e = absurd cc
fewer_out (Some m) None many few long e = absurd cc
fewer_out (Some m) (Some n) many few long e = let same : n ≡ m + many = cc in ap Some (omega arith)

-- the links that came, and those that were given back for them
pub record GivesBack {L : Type 0} (coming coming_now returned returned_now : Option (List L)) (out out_now : Option ℕ) (came links : List L) : Type 0 where
  pub out_is : out_now ≡ out
  pub gave : (all before : List L) → coming ≡ Some all → returned ≡ Some before →
      (rest : List L) × (all ≡ came ++ rest) × (coming_now ≡ Some rest) × (returned_now ≡ Some (before ++ links))

pub gives_back : {L : Type 0} {coming coming_mid coming_now returned returned_mid returned_now : Option (List L)} {out out_mid out_now : Option ℕ} (came links : List L)
    → AreOut coming coming_mid returned returned_mid out out_mid came → length links ≡ length came → coming_now ≡ coming_mid → returned_now ≡ told_with returned_mid links
    → out_now ≡ option_map (λ n. n - length links) out_mid → GivesBack coming coming_now returned returned_now out out_now came links
gives_back {L} {coming_mid = coming_mid} {out = out} {out_mid = out_mid} came links were long coming_is returned_is fewer =
    record {
      out_is = fewer ∙ fewer_out out out_mid (length came) (length links) long were.out_is;
      gave = λ all before all_is before_is.
          let split = split_coming came all coming_mid (sym were.came ∙ all_is) in (
            split.0,
            split.1,
            coming_is ∙ split.2,
            returned_is ∙ ap (λ (told : Option (List L)). told_with told links) (were.returned_is ∙ before_is),
          );
    }

-- links that were served
pub turned_links : {L : Type 0} {answer : Answers} {left written : L → Option (List ℕ)} {coming coming_now returned returned_now : Option (List L)} {out out_now : Option ℕ} {came links : List L}
    {count faults faults_now : ℕ} → GivesBack coming coming_now returned returned_now out out_now came links → length came ≡ count → length links ≡ length came
    → (ends : List LinkEnd) × (length ends ≡ count) × AreServed answer left written came links ends faults faults_now
    → ServesDoorInTurns answer left written coming coming_now returned returned_now out out_now count faults faults_now
turned_links {came = came} {links = links} gives many long ends =
    record {
      out_is = gives.out_is;
      links = λ all before all_is before_is.
          let gave = gives.gave all before all_is before_is in (came, links, gave.0, ends.0, gave.1, gave.2, gave.3, many, long ∙ many, ends.1, ends.2);
    }

-- what is left of them to be given back
pub gave_one : {L : Type 0} (told told_mid first : Option (List L)) (link : L) (rest all : List L)
    → told_with told (link ∷ rest) ≡ told_with first all → told_mid ≡ told_with told (link ∷ []) → told_with told_mid rest ≡ told_with first all
gave_one {L} told told_mid first link rest all before e =
    ap (λ (now : Option (List L)). told_with now rest) e ∙ told_with-append told (link ∷ []) rest ∙ before

pub one_fewer : (out out_mid first : Option ℕ) (rest all : ℕ) → option_map (λ n. n - (rest + 1)) out ≡ option_map (λ n. n - all) first → out_mid ≡ option_map (λ n. n - 1) out
    → option_map (λ n. n - rest) out_mid ≡ option_map (λ n. n - all) first
one_fewer None None first rest all before e = before
one_fewer None (Some n) first rest all before e = absurd cc
one_fewer (Some m) None first rest all before e = absurd cc
one_fewer (Some m) (Some n) first rest all before e =
    let same : n ≡ m - 1 = cc in let fewer : n - rest ≡ m - (rest + 1) = omega arith in ap Some fewer ∙ before

pub still_enough : (out out_mid : Option ℕ) (rest : ℕ) → IfSome out (λ n. rest + 1 ≤ n) → out_mid ≡ option_map (λ n. n - 1) out → IfSome out_mid (λ n. rest ≤ n)
still_enough None None rest h e = tt
still_enough None (Some n) rest h e = absurd cc
still_enough (Some m) None rest h e = absurd cc
still_enough (Some m) (Some n) rest h e = let same : n ≡ m - 1 = cc in omega arith

-- ---- links that took turns

-- the same of a count that was lower before
pub in_turns_from : {L : Type 0} {answer : Answers} {left written : L → Option (List ℕ)} {coming coming_now returned returned_now : Option (List L)} {out out_now : Option ℕ} {count : ℕ}
    {earlier faults faults_now : ℕ} → earlier ≤ faults → ServesDoorInTurns answer left written coming coming_now returned returned_now out out_now count faults faults_now
    → ServesDoorInTurns answer left written coming coming_now returned returned_now out out_now count earlier faults_now
in_turns_from {earlier = earlier} {faults = faults} {faults_now = faults_now} below does =
    record {
      out_is = does.out_is;
      links = λ all before all_is before_is.
          let found = does.links all before all_is before_is in
          let served = found.10 in (
            found.0,
            found.1,
            found.2,
            found.3,
            found.4,
            found.5,
            found.6,
            found.7,
            found.8,
            found.9,
            record { met = served.met; each = served.each; together = λ small. let counted = served.together small in omega (arith, below, counted) },
          );
    }

-- a list without a length
pub no_items : {L : Type 0} (items : List L) (many : ℕ) → many ≡ length items → many ≡ 0 → items ≡ []
no_items [] many e f = refl
no_items (item ∷ items) many e f = absurd (omega (arith, e, f))
