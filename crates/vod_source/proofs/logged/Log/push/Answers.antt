use Rattle.std.proofs.Common.{◌≡◌, ◌∙◌, ◌-◌, ◌<◌, ◌++◌, ◌∷◌, [], ap, map, length, slice_index_or, arith}
use Rattle.std.specs.Vec.{vec_len, vec_capacity}
use Rattle.vod_source.specs.Logs.{reads_of, read_of, last_name}
use Rattle.vod_source.proofs.LogLemmas.{reads_of-append}
use Rattle.vod_source.proofs.logged.Log.push.Goals as goal

pub returns-clause-reads : goal.returns-clause-reads
returns-clause-reads c =
    let names = c.self.inside.names in
    let entries = c.self.inside.entries in
    let spare : vec_len entries < vec_capacity entries = omega (arith, ap (λ v. v.spare) c.self.view_is) in
    let items = rw (c.push.ensures.succeeds spare) at c.push.ensures.items in
    let last : c.len.result - 1 ≡ length names.items - 1 = omega (arith, names.ok.0) in
    ap (map (read_of names.items)) items ∙ reads_of-append names.items entries.items _
    ∙ ap (λ i. map (read_of names.items) entries.items ++ (slice_index_or names.items i [], c.args.at, c.args.n) ∷ []) last
    ∙ ap (λ v. reads_of v.names v.entries ++ (last_name v.names, c.args.at, c.args.n) ∷ []) c.self.view_is
