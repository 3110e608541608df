-- A chain of steps is refused as its steps are.
use Rattle.std.proofs.Common.{Bool, true, false, List, [], ◌∷◌, filter_map, slice_get, Option, Some, None, option_map, IfSome, Result, Ok, Err}
use Rattle.std.specs.Bool.{then_some}
use Rattle.std.specs.List.{cons_option}
use Rattle.std.specs.Option.{option_or}
use Rattle.std.specs.Prelude.{IfErr, ok_or, if◌then◌else◌}
use Rattle.std.specs.Result.{result_map_both}
use Rattle.vod_types.specs.declared.refusal.Refusal.{Refusal}
use Rattle.vod_types.specs.Results.{◌>>=◌, ◌>>◌, unless, each_in_turn}
use Rattle.answer_laws.specs.Refusals.{IsPathRefusal}

-- a refusal of it is one of a path
abbrev pub May : {A : Type 0} → Result A Refusal → Type 0
May r = IfErr r IsPathRefusal

-- a fault, if there is one, is one of a path
abbrev pub MayFail : Option Refusal → Type 0
MayFail o = IfSome o IsPathRefusal

pub then_may : {A B : Type 0} (r : Result A Refusal) (f : A → Result B Refusal) → May r → ((x : A) → May (f x)) → May (r >>= f)
then_may (Ok x) f first rest = rest x
then_may (Err e) f first rest = first

pub after_may : {A B : Type 0} (r : Result A Refusal) (s : Result B Refusal) → May r → May s → May (r >> s)
after_may (Ok x) s first rest = rest
after_may (Err e) s first rest = first

pub ok_or_may : {A : Type 0} (o : Option A) (e : Refusal) → IsPathRefusal e → May (ok_or o e)
ok_or_may (Some x) e is = tt
ok_or_may None e is = is

pub unless_may : (o : Option Refusal) → MayFail o → May (unless o)
unless_may None fault = tt
unless_may (Some e) fault = fault

pub each_may : {A B : Type 0} (f : A → Result B Refusal) → ((x : A) → May (f x)) → (xs : List A) → May (each_in_turn f xs)
each_may f h [] = tt
each_may f h (x ∷ xs) = then_may (f x) _ (h x) (λ y. then_may (each_in_turn f xs) _ (each_may f h xs) (λ ys. tt))

pub both_may : {A B E : Type 0} (f : A → B) (g : E → Refusal) → ((e : E) → IsPathRefusal (g e)) → (r : Result A E) → May (result_map_both f g r)
both_may f g h (Ok x) = tt
both_may f g h (Err e) = h e

pub if_may : {A : Type 0} (b : Bool) (r s : Result A Refusal) → May r → May s → May (if b then r else s)
if_may true r s h k = h
if_may false r s h k = k

-- ---- faults

pub some_may : (b : Bool) (e : Refusal) → IsPathRefusal e → MayFail (then_some b e)
some_may true e is = is
some_may false e is = tt

pub or_may : (a b : Option Refusal) → MayFail a → MayFail b → MayFail (option_or a b)
or_may (Some e) b h k = h
or_may None b h k = k

pub map_may : {A : Type 0} (f : A → Refusal) → ((x : A) → IsPathRefusal (f x)) → (o : Option A) → MayFail (option_map f o)
map_may f h None = tt
map_may f h (Some x) = h x

-- the first fault of a list
pub first_may : {A : Type 0} (f : A → Option Refusal) → ((x : A) → MayFail (f x)) → (xs : List A) → MayFail (slice_get (filter_map f xs) 0)
first_may f h [] = tt
first_may f h (x ∷ xs) = by_fault (f x) (h x) (first_may f h xs)
  where
    by_fault : (o : Option Refusal) → MayFail o → MayFail (slice_get (filter_map f xs) 0) → MayFail (slice_get (cons_option o (filter_map f xs)) 0)
    by_fault None fault rest = rest
    by_fault (Some e) fault rest = fault
