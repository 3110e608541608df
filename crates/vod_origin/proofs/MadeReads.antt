-- What is read for a body that is made whole of what its turns found: the turns alone.
use Rattle.std.proofs.Common.{◌≡◌, ◌≢◌, ℕ, Bool, true, false, List, [], Option, Result, Ok, Err, refl}
use Rattle.vod_types.specs.declared.paths.Ask.{Ask}
use Rattle.vod_types.specs.declared.paths.ByteRange.{ByteRange}
use Rattle.vod_types.specs.declared.paths.Leaf.{Leaf}
use Rattle.vod_types.specs.declared.refusal.Refusal.{Refusal}
use Rattle.vod_types.specs.declared.refusal.Refusal.TheVariants.{NoMemory, StoreFailed}
use Rattle.vod_types.specs.Results.{◌>>=◌}
use Rattle.list_model.specs.Path.{is_local}
use Rattle.vod_source.specs.Stored.{Files, Read}
use Rattle.vod_source.specs.Told.{told_with}
use Rattle.vod_source.proofs.CallLemmas.{LogsErr}
use Rattle.vod_http.specs.declared.answerer.Reply.{Reply}
use Rattle.vod_http.specs.declared.answerer.Reply.TheVariants.{Body, Refused}
use Rattle.origin_model.specs.Reads.{Cache, mapping_reads_by}
use Rattle.origin_model.specs.Requests.{Setup, Asking, asking_of}
use Rattle.flat_segments.specs.declared.body.FlatBody.{FlatBody}
use Rattle.vod_plan.specs.Turned.{AreTurns}
use Rattle.vod_origin.specs.Begun.{IsBegun}
use Rattle.vod_origin.specs.declared.cursor.Cursor.{Cursor}
use Rattle.vod_origin.specs.declared.cursor.Cursor.TheVariants.{Made, Fragment, Stream}
use Rattle.vod_origin.specs.declared.cursor.MadeBody.{MadeBody}
use Rattle.vod_origin.specs.Reads.{ReadsForAsk, reads_to_come}
use Rattle.vod_origin.proofs.SoughtReads.{LooksSo, reads_begun, reads_refused, reads_unfound, reads_unmade, samples_read}

-- no sample is read for it
abbrev pub none_in : {D : Type 0} → D → List Read
none_in s = []

module _ {D : Type 0} {names_in : D → List (List ℕ)} (o : Setup) (head_only : Bool) (range : Option ByteRange) (ask : Ask) {found : Asking → Result D Refusal} (looked : LooksSo names_in none_in o found ask.leaf) where
  pub reads_of_unfound : (cache : Cache) (log log_now : Option (List Read)) (e : Refusal) → (e ≢ NoMemory → e ≢ StoreFailed → (asking_of o ask >>= found) ≡ Err e)
      → LogsErr e (mapping_reads_by o (is_local ask.place) ask.target) log log_now → ReadsForAsk o head_only range ask (Refused e) cache cache log log_now
  reads_of_unfound = reads_unfound names_in none_in o range ask found looked head_only

  module _ (s : D) (timed : (asking_of o ask >>= found) ≡ Ok s) (cache cache_now : Cache) (log log_cut log_now : Option (List Read))
      (cut : log_cut ≡ told_with log (mapping_reads_by o (is_local ask.place) ask.target)) where
    pub reads_of_refused : {X : Type 0} (e : Refusal) → AreTurns {X = X} o.files (names_in s) (Err e) cache cache_now log_cut log_now
        → ReadsForAsk o head_only range ask (Refused e) cache cache_now log log_now
    reads_of_refused {X} e = reads_refused names_in none_in o range ask found looked s timed head_only cache cache_now log log_cut log_now cut {X = X} e (λ known_memory known_store. refl)

    module _ {X : Type 0} (x : X) (turned : AreTurns o.files (names_in s) (Ok x) cache cache_now log_cut log_now) where
      -- memory ran out for its text
      pub reads_of_unmade : (e : Refusal) → e ≡ NoMemory → ReadsForAsk o head_only range ask (Refused e) cache cache_now log log_now
      reads_of_unmade = reads_unmade names_in none_in o range ask found looked s timed head_only cache cache_now log log_cut log_now cut x turned

      none_left : (files : Files) (b : Bool) (made : MadeBody)
          → reads_to_come files b (Made made) ≡ samples_read b []
      none_left files true made = refl
      none_left files false made = refl

      pub reads_of_made : (leaf : Leaf) (body : FlatBody) (reply : Reply Cursor) → IsBegun leaf body reply → ReadsForAsk o head_only range ask reply cache cache_now log log_now
      reads_of_made leaf body (Refused why) begun = absurd begun
      reads_of_made leaf body (Body kind n part (Made b)) begun =
          reads_begun names_in none_in o range ask found looked s timed head_only cache cache_now log log_cut log_now cut x turned kind n part (Made b) (none_left o.files head_only b)
      reads_of_made leaf body (Body kind n part (Fragment b)) begun = absurd begun.3
      reads_of_made leaf body (Body kind n part (Stream b)) begun = absurd begun.3
