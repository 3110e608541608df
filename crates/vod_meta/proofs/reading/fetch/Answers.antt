-- The bytes of a movie box, by `find` and `read`.
use Rattle.std.proofs.Common.{◌≡◌, subst}
use Rattle.std.specs.Prelude.{Option, IfSome}
use Rattle.mp4_model.specs.Movie.{moov_bytes}
use Rattle.vod_source.specs.Stored.{Files, bytes_of}
use Rattle.vod_meta.proofs.LoadLemmas.{told-not_found, told-not_read, told-was_read}
use Rattle.vod_meta.proofs.RefusalLemmas.{place_may, read_may}
use Rattle.vod_meta.proofs.reading.fetch.Goals as goal

pub returns-in-Err-clause-told : goal.returns-in-Err-clause-told
returns-in-Err-clause-told g c = told-not_found c.args.name.now (g.S.Store.content c.args.files.now) c.in-Err.refusal _ _ c.in-Err.ensures.told c.in-Err.ensures.log

pub returns-in-Ok-read-clause-told : goal.returns-in-Ok-read-clause-told
returns-in-Ok-read-clause-told g c =
    told-was_read c.args.name.now (g.S.Store.content c.args.files.now) (record { place = c.in-Ok.place; moov = c.in-Ok-read.moov }) _ _ _
    c.in-Ok.ensures.told c.in-Ok.ensures.log c.in-Ok-read.ensures.log
    (subst (λ (content : Option Files). IfSome content (λ files. c.in-Ok-read.moov.items ≡ moov_bytes (bytes_of files c.args.name.now) c.in-Ok.place)) c.in-Ok.ensures.content c.in-Ok-read.ensures.told)

pub returns-in-Err-read-clause-told : goal.returns-in-Err-read-clause-told
returns-in-Err-read-clause-told g c =
    told-not_read c.args.name.now (g.S.Store.content c.args.files.now) c.in-Ok.place c.in-Err-read.refusal _ _ _ c.in-Ok.ensures.told c.in-Ok.ensures.log c.in-Err-read.ensures.log c.in-Err-read.ensures.refused

pub returns-in-Err-clause-refused : goal.returns-in-Err-clause-refused
returns-in-Err-clause-refused g c = place_may c.args.name.now c.in-Err.refusal c.in-Err.ensures.refused

pub returns-in-Err-read-clause-refused : goal.returns-in-Err-read-clause-refused
returns-in-Err-read-clause-refused g c = read_may c.in-Err-read.refusal c.in-Err-read.ensures.refused
