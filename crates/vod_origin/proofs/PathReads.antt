-- What is read for a path.
use Rattle.std.proofs.Common.{◌≡◌, ◌≢◌, ℕ, Bool, true, false, List, [], Option, Result, Ok, Err, refl, sym, ap, ◌∙◌, subst}
use Rattle.vod_types.specs.declared.paths.Ask.{Ask}
use Rattle.vod_types.specs.declared.paths.ByteRange.{ByteRange}
use Rattle.vod_types.specs.declared.paths.Leaf.{Leaf}
use Rattle.vod_types.specs.declared.paths.Leaf.TheVariants.{Master, Mpd, Index, Init, Segment, Iframes, Iframe, Clip}
use Rattle.vod_types.specs.declared.refusal.Refusal.{Refusal}
use Rattle.vod_types.specs.declared.refusal.Refusal.TheVariants.{NoMemory}
use Rattle.vod_source.specs.Stored.{Read}
use Rattle.vod_source.proofs.CallLemmas.{logs_unmade}
use Rattle.vod_http.specs.declared.answerer.Reply.{Reply}
use Rattle.vod_http.specs.declared.answerer.Reply.TheVariants.{Refused}
use Rattle.origin_model.specs.Answers.{every_leaf, readable}
use Rattle.origin_model.specs.Reads.{Cache, ask_reads, if_readable, path_reads, turns}
use Rattle.origin_model.specs.Requests.{Setup}
use Rattle.vod_origin.specs.declared.cursor.Cursor.{Cursor}
use Rattle.vod_origin.specs.Reads.{ReadsFor, ReadsForAsk, ReadsForPath, asked_names, asked_reads, origin_names, origin_reads, reads_samples}
use Rattle.vod_origin.proofs.SoughtReads.{left_by_none, turns_none}

module _ (o : Setup) (head_only : Bool) (path : List ℕ) (range : Option ByteRange) where
  -- it is what is read for what the path asks for
  pub of_path : (ask : Ask) → readable path ≡ Ok ask → (reply : Reply Cursor) (cache cache_now : Cache) (log log_now : Option (List Read))
      → ReadsForAsk o head_only range ask reply cache cache_now log log_now → ReadsForPath o head_only path range reply cache cache_now log log_now
  of_path ask read reply cache cache_now log log_now reads =
      subst (λ (r : Result Ask Refusal). ReadsFor o.files (if_readable r [] (asked_names o)) (if_readable r [] (asked_reads o cache head_only range)) head_only reply cache cache_now log log_now)
      (sym read) reads

  -- nothing where it isn't read
  pub of_unread : (e : Refusal) → (e ≢ NoMemory → readable path ≡ Err e) → (cache : Cache) (log : Option (List Read)) → ReadsForPath o head_only path range (Refused e) cache cache log log
  of_unread e unread cache log = record {
    logged = logs_unmade e (origin_reads o cache head_only path range) log log refl
        (λ known_memory known_store. ap (λ (r : Result Ask Refusal). if_readable r [] (asked_reads o cache head_only range)) (unread known_memory));
    leaves = (
      left_by_none o.files (origin_names o path) cache,
      λ known_memory known_store.
          sym (ap (λ (r : Result Ask Refusal). (turns o.files cache (if_readable r [] (asked_names o))).cache) (unread known_memory) ∙ turns_none o.files cache),
    );
  }

-- where no movie is kept, of every form those of a request that finds an empty cache
reads_whole : (leaf : Leaf) → reads_samples false leaf ≡ true
reads_whole Master = refl
reads_whole Mpd = refl
reads_whole (Index sequence asked) = refl
reads_whole (Init part sequence asked) = refl
reads_whole (Segment number sequence asked form) = refl
reads_whole (Iframes sequence video) = refl
reads_whole (Iframe number index sequence video) = refl
reads_whole (Clip sequence asked) = refl

pub reads_anew : (o : Setup) (path : List ℕ) (range : Option ByteRange) → origin_reads o [] false path range ≡ path_reads every_leaf o [] true [] path range
unfolding path_reads asked_reads
reads_anew o path range = by_read (readable path)
  where
    by_read : (r : Result Ask Refusal) → if_readable r [] (asked_reads o [] false range) ≡ if_readable r [] (ask_reads o [] true [] range)
    by_read (Ok ask) = ap (λ (with_body : Bool). ask_reads o [] with_body [] range ask) (reads_whole ask.leaf)
    by_read (Err e) = refl
