-- What a call came to, by the turns of the calls in it.
use Rattle.std.proofs.Common.{◌≡◌, ◌≢◌, ℕ, List, [], Option, Some, None, Result, Ok, Err, IfSome, sym, subst}
use Rattle.vod_types.specs.declared.refusal.Refusal.{Refusal}
use Rattle.vod_types.specs.declared.refusal.Refusal.TheVariants.{NoMemory, StoreFailed}
use Rattle.vod_types.specs.Results.{Answers}
use Rattle.vod_source.specs.Calls.{Came}
use Rattle.vod_source.specs.Stored.{Files, Read}
use Rattle.vod_source.proofs.CallLemmas.{answers_unless}
use Rattle.origin_model.specs.Reads.{Cache, turns}
use Rattle.vod_plan.specs.Turned.{LeavesCache, AreTurns}
use Rattle.vod_plan.proofs.CacheLemmas.{turned_all, turned_begin, turned_ended}
use Rattle.seek_lists.specs.Turned.{IsTurned}

module _ {X Y Z : Type 0} (files : Files) (view : X → Y) (due : Result Y Refusal) (names : List (List ℕ)) (held now : Cache) (log log_now : Option (List Read)) where
  -- all turns were taken, and then this was answered
  pub then_answered : (z : Z) (r : Result X Refusal) → AreTurns files names (Ok z) held now log log_now → Answers view r due → IsTurned files view due names r held now log log_now
  then_answered z r turned answers = record { answered = answers_unless view r due answers; turned = turned_all files z r names held now log log_now turned }

  -- or one was refused
  pub then_refused : (e : Refusal) → AreTurns {X = Z} files names (Err e) held now log log_now → (e ≢ NoMemory → e ≢ StoreFailed → due ≡ Err e) → IsTurned files view due names (Err e) held now log log_now
  then_refused e turned known = record { answered = known; turned = record { logged = turned.logged; cache = turned.cache } }

-- no turn is due
pub unturned : {X Y : Type 0} (files : Files) (view : X → Y) (due : Result Y Refusal) (names : List (List ℕ)) (held : Cache) (log : Option (List Read)) (r : Result X Refusal) → names ≡ [] → Answers view r due
    → IsTurned files view due names r held held log log
unturned files view due names held log r none answers =
    subst (λ (names : List (List ℕ)). IsTurned files view due names r held held log log) (sym none)
    (record { answered = answers_unless view r due answers; turned = turned_all files tt r [] held held log log (turned_begin files held log) })

-- the same of a refusal, whatever was due where memory ran out
pub unbegun : {X Y : Type 0} (files : Files) (view : X → Y) (due : Result Y Refusal) (names : List (List ℕ)) (held : Cache) (log : Option (List Read)) (e : Refusal) → (e ≢ NoMemory → due ≡ Err e)
    → (e ≢ NoMemory → names ≡ []) → IsTurned files view due names (Err e) held held log log
unbegun {X} files view due names held log e known none = record {
  answered = λ memory store. known memory;
  turned = turned_ended files X e [] names held held log log (turned_all files tt (Err e) [] held held log log (turned_begin files held log)) (λ memory store. none memory);
}

-- the clauses of a call, where the store tells its files
module _ {X Y : Type 0} (told : Option Files) (view : X → Y) (due : Files → Result Y Refusal) (names : Files → List (List ℕ)) (r : Result X Refusal) (held now : Cache) (log log_now : Option (List Read)) where
  pub tells_came : IfSome told (λ files. IsTurned files view (due files) (names files) r held now log log_now) → IfSome told (λ files. Came view r (due files) (turns files held (names files)).reads log log_now)
  tells_came = by told
    where
      by : (o : Option Files) → IfSome o (λ files. IsTurned files view (due files) (names files) r held now log log_now) → IfSome o (λ files. Came view r (due files) (turns files held (names files)).reads log log_now)
      by None t = tt
      by (Some files) t = record { answered = t.answered; logged = t.turned.logged }

  pub tells_cache : IfSome told (λ files. IsTurned files view (due files) (names files) r held now log log_now) → IfSome told (λ files. LeavesCache files (names files) r held now)
  tells_cache = by told
    where
      by : (o : Option Files) → IfSome o (λ files. IsTurned files view (due files) (names files) r held now log log_now) → IfSome o (λ files. LeavesCache files (names files) r held now)
      by None t = tt
      by (Some files) t = t.turned.cache
