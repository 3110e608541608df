-- What each view shows of its payload: how many entries, and where each stands.
use Rattle.std.proofs.Common.{◌≡◌, ℕ, ◌+◌, ◌*◌, ◌<◌, ◌≤◌, ℤ, pos, Bool, true, false, cond, eqb, List, [], length, get_or, Option, Some, None, is_some, refl, sym, ap, inl, inr, ◌∙◌, arith}
use Rattle.std.specs.Prelude.{unwrap_or, slice_index, slice_get}
use Rattle.std.proofs.lemmas.Bool.{le-leb, lt-leb, ne_eqb, cases_eq}
use Rattle.std.proofs.lemmas.List.{length-replicate, get_or-replicate}
use Rattle.std.proofs.lemmas.List.FromFn.{length-map-range_with_len, get_or-map-range_with_len}
use Rattle.std.proofs.lemmas.Option.{slice_get-get_or}
use Rattle.vod_bytes.specs.Fields.{u32_at, u64_at, i32_at}
use Rattle.mp4_model.specs.Tables.{entries_at, entries, read_stts, read_ctts, read_stss, read_stsc, read_stsz, read_stco, read_co64}
use Rattle.mp4_model.proofs.TablesLemmas.{HasEntries, stts_has, ctts_has, stss_has, stsc_has, stsz_has, HasSizes, one_for_all, one_by_one, stco_has, co64_has, stts_reads, stss_reads, stsc_reads, stco_reads, co64_reads}
use Rattle.mp4_tables.specs.declared.times.Stts.{Stts}
use Rattle.mp4_tables.specs.declared.times.Ctts.{Ctts}
use Rattle.mp4_tables.specs.declared.samples.Stss.{Stss}
use Rattle.mp4_tables.specs.declared.samples.Stsz.{Stsz}
use Rattle.mp4_tables.specs.declared.places.Stsc.{Stsc}
use Rattle.mp4_tables.specs.declared.places.Chunks.{Chunks}
use Rattle.mp4_tables.specs.Views.{stts_entries, ctts_entries, stss_entries, stsc_entries, stsz_table, stsz_entries, chunks_entries}

shown : {X : Type 0} (o : Option X) (d : X) → is_some o ≡ true → o ≡ Some (unwrap_or o d)
shown None d e = absurd cc
shown (Some x) d e = refl

unread : {X : Type 0} (o : Option X) → is_some o ≡ false → o ≡ None
unread None e = refl
unread (Some x) e = absurd cc

-- entry i, at its place
entry_is : {X : Type 0} {body : List ℕ} {start width : ℕ} {entry : ℕ → X} {count : ℕ} {xs : List X} (i : ℕ) → HasEntries body start width entry count xs → i < length xs → slice_get xs i ≡ Some (entry (start + width * i))
entry_is {X} {body} {start} {width} {entry} {count} {xs} i has h =
    slice_get-get_or xs i (entry 0) h ∙ ap Some (has.each i (start + width * i) (entry 0) (omega (arith, has.length_is)) refl)

-- ---- stts

pub stts_unread : (body : List ℕ) → length body < 8 + 8 * u32_at body 4 → read_stts body ≡ None
stts_unread body h = unread (read_stts body) (stts_reads body ∙ lt-leb (8 + 8 * u32_at body 4) (length body) h)

pub stts_shown : (t : Stts) → read_stts t.body.now ≡ Some (stts_entries t)
unfolding stts_entries
stts_shown t = shown (read_stts t.body.now) [] (stts_reads t.body.now ∙ le-leb (8 + 8 * u32_at t.body.now 4) (length t.body.now) t.room)

pub length-stts_entries : (t : Stts) → length (stts_entries t) ≡ u32_at t.body.now 4
length-stts_entries t = (stts_has t.body.now (stts_entries t) (stts_shown t)).length_is

pub stts_entry : (t : Stts) (i : ℕ) → i < length (stts_entries t) → slice_get (stts_entries t) i ≡ Some (u32_at t.body.now (8 + 8 * i), u32_at t.body.now (8 + 8 * i + 4))
stts_entry t i h = entry_is i (stts_has t.body.now (stts_entries t) (stts_shown t)) h

pub ruleset stts_views = (length-stts_entries, stts_entry)

-- ---- ctts

entries-with_room : {X : Type 0} (body : List ℕ) (width : ℕ) (entry : ℕ → X) → 8 + width * u32_at body 4 ≤ length body → entries width entry body ≡ Some (entries_at 8 width entry (u32_at body 4))
entries-with_room body width entry h = rw (le-leb (8 + width * u32_at body 4) (length body) h) refl

entries-without_room : {X : Type 0} (body : List ℕ) (width : ℕ) (entry : ℕ → X) → length body < 8 + width * u32_at body 4 → entries width entry body ≡ None
entries-without_room body width entry h = rw (lt-leb (8 + width * u32_at body 4) (length body) h) refl

abbrev unsigned_run : List ℕ → ℕ → ℕ × ℤ
unsigned_run body at = (u32_at body at, pos (u32_at body (at + 4)))

abbrev signed_run : List ℕ → ℕ → ℕ × ℤ
signed_run body at = (u32_at body at, i32_at body (at + 4))

read_ctts-unsigned : (body : List ℕ) → slice_index body 0 ≡ 0 → read_ctts body ≡ entries 8 (unsigned_run body) body
unfolding read_ctts
read_ctts-unsigned body e = rw e refl

read_ctts-signed : (body : List ℕ) → slice_index body 0 ≡ 1 → read_ctts body ≡ entries 8 (signed_run body) body
unfolding read_ctts
read_ctts-signed body e = rw e refl

pub ctts_unknown : (body : List ℕ) → 1 < slice_index body 0 → read_ctts body ≡ None
unfolding read_ctts
ctts_unknown body h = rw (ne_eqb (slice_index body 0) 0 (λ e. omega arith), ne_eqb (slice_index body 0) 1 (λ e. omega arith)) refl

pub ctts_unread : (body : List ℕ) → length body < 8 + 8 * u32_at body 4 → read_ctts body ≡ None
ctts_unread body h =
    elim (cases_eq (slice_index body 0) 0) [
      | inl e ↦ read_ctts-unsigned body e ∙ entries-without_room body 8 (unsigned_run body) h
      | inr zero ↦ elim (cases_eq (slice_index body 0) 1) [
        | inl e ↦ read_ctts-signed body e ∙ entries-without_room body 8 (signed_run body) h
        | inr one ↦ ctts_unknown body (omega arith)
      ]
    ]

-- what a payload shows whose offsets are read by a version
ctts_shows : (t : Ctts) (run : ℕ → ℕ × ℤ) → read_ctts t.body.now ≡ entries 8 run t.body.now → read_ctts t.body.now ≡ Some (ctts_entries t)
unfolding ctts_entries
ctts_shows t run e = let r = e ∙ entries-with_room t.body.now 8 run t.room in rw r refl

ctts_shows_runs : (t : Ctts) (run : ℕ → ℕ × ℤ) → read_ctts t.body.now ≡ entries 8 run t.body.now → ctts_entries t ≡ entries_at 8 8 run (u32_at t.body.now 4)
ctts_shows_runs t run e = let p : Some (ctts_entries t) ≡ Some (entries_at 8 8 run (u32_at t.body.now 4)) = sym (ctts_shows t run e) ∙ e ∙ entries-with_room t.body.now 8 run t.room in cc

version_one : (t : Ctts) → (slice_index t.body.now 0 ≡ 0 → ⊥) → slice_index t.body.now 0 ≡ 1
version_one t ne = omega (arith, t.version)

pub ctts_shown : (t : Ctts) → read_ctts t.body.now ≡ Some (ctts_entries t)
ctts_shown t =
    elim (cases_eq (slice_index t.body.now 0) 0) [
      | inl e ↦ ctts_shows t (unsigned_run t.body.now) (read_ctts-unsigned t.body.now e)
      | inr ne ↦ ctts_shows t (signed_run t.body.now) (read_ctts-signed t.body.now (version_one t ne))
    ]

pub length-ctts_entries : (t : Ctts) → length (ctts_entries t) ≡ u32_at t.body.now 4
length-ctts_entries t = (ctts_has t.body.now (ctts_entries t) (ctts_shown t)).1.length_is

run_at : {X : Type 0} (run : ℕ → X) (count i : ℕ) (xs : List X) → xs ≡ entries_at 8 8 run count → i < length xs → slice_get xs i ≡ Some (run (8 + 8 * i))
run_at {X} run count i xs e h =
    let n : length xs ≡ count = ap length e ∙ length-map-range_with_len (λ (k : ℕ). run (8 + 8 * k)) 0 count in
    slice_get-get_or xs i (run 0) h ∙ ap Some (ap (λ (ys : List X). get_or ys i (run 0)) e ∙ get_or-map-range_with_len (λ (k : ℕ). run (8 + 8 * k)) 0 count i i (run 0) (omega arith) (omega arith))

pub ctts_unsigned : (t : Ctts) (i : ℕ) → slice_index t.body.now 0 ≡ 0 → i < length (ctts_entries t) → slice_get (ctts_entries t) i ≡ Some (u32_at t.body.now (8 + 8 * i), pos (u32_at t.body.now (8 + 8 * i + 4)))
ctts_unsigned t i e h = run_at (unsigned_run t.body.now) (u32_at t.body.now 4) i (ctts_entries t) (ctts_shows_runs t (unsigned_run t.body.now) (read_ctts-unsigned t.body.now e)) h

pub ctts_signed : (t : Ctts) (i : ℕ) → (slice_index t.body.now 0 ≡ 0 → ⊥) → i < length (ctts_entries t) → slice_get (ctts_entries t) i ≡ Some (u32_at t.body.now (8 + 8 * i), i32_at t.body.now (8 + 8 * i + 4))
ctts_signed t i ne h = run_at (signed_run t.body.now) (u32_at t.body.now 4) i (ctts_entries t) (ctts_shows_runs t (signed_run t.body.now) (read_ctts-signed t.body.now (version_one t ne))) h

pub ruleset ctts_views = (length-ctts_entries, ctts_unsigned, ctts_signed)

-- ---- stss

pub stss_unread : (body : List ℕ) → length body < 8 + 4 * u32_at body 4 → read_stss body ≡ None
stss_unread body h = unread (read_stss body) (stss_reads body ∙ lt-leb (8 + 4 * u32_at body 4) (length body) h)

pub stss_shown : (t : Stss) → read_stss t.body.now ≡ Some (stss_entries t)
unfolding stss_entries
stss_shown t = shown (read_stss t.body.now) [] (stss_reads t.body.now ∙ le-leb (8 + 4 * u32_at t.body.now 4) (length t.body.now) t.room)

pub length-stss_entries : (t : Stss) → length (stss_entries t) ≡ u32_at t.body.now 4
length-stss_entries t = (stss_has t.body.now (stss_entries t) (stss_shown t)).length_is

pub stss_entry : (t : Stss) (i : ℕ) → i < length (stss_entries t) → slice_get (stss_entries t) i ≡ Some (u32_at t.body.now (8 + 4 * i))
stss_entry t i h = entry_is i (stss_has t.body.now (stss_entries t) (stss_shown t)) h

pub ruleset stss_views = (length-stss_entries, stss_entry)

-- ---- stsc

pub stsc_unread : (body : List ℕ) → length body < 8 + 12 * u32_at body 4 → read_stsc body ≡ None
stsc_unread body h = unread (read_stsc body) (stsc_reads body ∙ lt-leb (8 + 12 * u32_at body 4) (length body) h)

pub stsc_shown : (t : Stsc) → read_stsc t.body.now ≡ Some (stsc_entries t)
unfolding stsc_entries
stsc_shown t = shown (read_stsc t.body.now) [] (stsc_reads t.body.now ∙ le-leb (8 + 12 * u32_at t.body.now 4) (length t.body.now) t.room)

pub length-stsc_entries : (t : Stsc) → length (stsc_entries t) ≡ u32_at t.body.now 4
length-stsc_entries t = (stsc_has t.body.now (stsc_entries t) (stsc_shown t)).length_is

pub stsc_entry : (t : Stsc) (i : ℕ) → i < length (stsc_entries t) → slice_get (stsc_entries t) i ≡ Some (u32_at t.body.now (8 + 12 * i), u32_at t.body.now (8 + 12 * i + 4), u32_at t.body.now (8 + 12 * i + 8))
stsc_entry t i h = entry_is i (stsc_has t.body.now (stsc_entries t) (stsc_shown t)) h

pub ruleset stsc_views = (length-stsc_entries, stsc_entry)

-- ---- stsz

pub stsz_short : (body : List ℕ) → length body < 12 → read_stsz body ≡ None
unfolding read_stsz
stsz_short body h = rw (lt-leb (12 + cond (eqb (u32_at body 4) 0) (4 * u32_at body 8) 0) (length body) (omega arith)) refl

pub stsz_unread : (body : List ℕ) → u32_at body 4 ≡ 0 → length body < 12 + 4 * u32_at body 8 → read_stsz body ≡ None
unfolding read_stsz
stsz_unread body e h = rw (e, lt-leb (12 + 4 * u32_at body 8) (length body) h) refl

stsz_reads : (body : List ℕ) → 12 ≤ length body → (u32_at body 4 ≡ 0 → 12 + 4 * u32_at body 8 ≤ length body) → is_some (read_stsz body) ≡ true
unfolding read_stsz
stsz_reads body fields room =
    elim (cases_eq (u32_at body 4) 0) [
      | inl e ↦ rw (e, le-leb (12 + 4 * u32_at body 8) (length body) (room e)) refl
      | inr ne ↦ rw (ne_eqb (u32_at body 4) 0 ne, le-leb 12 (length body) fields) refl
    ]

pub stsz_shown : (t : Stsz) → read_stsz t.body.now ≡ Some (stsz_table t)
unfolding stsz_table
stsz_shown t = shown (read_stsz t.body.now) (record { common = 0; sizes = [] }) (stsz_reads t.body.now t.fields t.room)

pub length-stsz_entries : (t : Stsz) → length (stsz_entries t) ≡ u32_at t.body.now 8
length-stsz_entries t = go (stsz_has t.body.now (stsz_table t) (stsz_shown t))
  where
    go : HasSizes t.body.now (stsz_table t) → length (stsz_table t).sizes ≡ u32_at t.body.now 8
    go (one_for_all some common room sizes) = ap length sizes ∙ length-replicate (u32_at t.body.now 8) (u32_at t.body.now 4)
    go (one_by_one none common has) = has.length_is

pub stsz_common : (t : Stsz) → (stsz_table t).common ≡ u32_at t.body.now 4
stsz_common t = go (stsz_has t.body.now (stsz_table t) (stsz_shown t))
  where
    go : HasSizes t.body.now (stsz_table t) → (stsz_table t).common ≡ u32_at t.body.now 4
    go (one_for_all some common room sizes) = common
    go (one_by_one none common has) = common ∙ sym none

pub stsz_written : (t : Stsz) (i : ℕ) → u32_at t.body.now 4 ≡ 0 → i < length (stsz_entries t) → slice_get (stsz_entries t) i ≡ Some (u32_at t.body.now (12 + 4 * i))
stsz_written t i none h = go (stsz_has t.body.now (stsz_table t) (stsz_shown t))
  where
    go : HasSizes t.body.now (stsz_table t) → slice_get (stsz_table t).sizes i ≡ Some (u32_at t.body.now (12 + 4 * i))
    go (one_for_all some common room sizes) = absurd (some none)
    go (one_by_one same common has) = entry_is i has h

pub stsz_same : (t : Stsz) (i : ℕ) → (u32_at t.body.now 4 ≡ 0 → ⊥) → i < length (stsz_entries t) → slice_get (stsz_entries t) i ≡ Some (u32_at t.body.now 4)
stsz_same t i some h = go (stsz_has t.body.now (stsz_table t) (stsz_shown t))
  where
    go : HasSizes t.body.now (stsz_table t) → slice_get (stsz_table t).sizes i ≡ Some (u32_at t.body.now 4)
    go (one_for_all same common room sizes) =
        let within : i < u32_at t.body.now 8 = omega (arith, length-stsz_entries t) in
        slice_get-get_or (stsz_table t).sizes i 0 h ∙ ap Some (ap (λ (xs : List ℕ). get_or xs i 0) sizes ∙ get_or-replicate (u32_at t.body.now 8) i (u32_at t.body.now 4) 0 within)
    go (one_by_one none common has) = absurd (some none)

pub ruleset stsz_views = (length-stsz_entries, stsz_common, stsz_written, stsz_same)

-- ---- stco and co64

pub stco_unread : (body : List ℕ) → length body < 8 + 4 * u32_at body 4 → read_stco body ≡ None
stco_unread body h = unread (read_stco body) (stco_reads body ∙ lt-leb (8 + 4 * u32_at body 4) (length body) h)

pub co64_unread : (body : List ℕ) → length body < 8 + 8 * u32_at body 4 → read_co64 body ≡ None
co64_unread body h = unread (read_co64 body) (co64_reads body ∙ lt-leb (8 + 8 * u32_at body 4) (length body) h)

pub stco_shown : (t : Chunks) → t.wide ≡ false → read_stco t.body.now ≡ Some (chunks_entries t)
unfolding chunks_entries
stco_shown t e = rw e (shown (read_stco t.body.now) [] (stco_reads t.body.now ∙ le-leb (8 + 4 * u32_at t.body.now 4) (length t.body.now) (rw e at t.room)))

pub co64_shown : (t : Chunks) → t.wide ≡ true → read_co64 t.body.now ≡ Some (chunks_entries t)
unfolding chunks_entries
co64_shown t e = rw e (shown (read_co64 t.body.now) [] (co64_reads t.body.now ∙ le-leb (8 + 8 * u32_at t.body.now 4) (length t.body.now) (rw e at t.room)))

pub length-chunks_entries : (t : Chunks) → length (chunks_entries t) ≡ u32_at t.body.now 4
length-chunks_entries t = go t.wide refl
  where
    go : (b : Bool) → t.wide ≡ b → length (chunks_entries t) ≡ u32_at t.body.now 4
    go true e = (co64_has t.body.now (chunks_entries t) (co64_shown t e)).length_is
    go false e = (stco_has t.body.now (chunks_entries t) (stco_shown t e)).length_is

pub stco_entry : (t : Chunks) (i : ℕ) → t.wide ≡ false → i < length (chunks_entries t) → slice_get (chunks_entries t) i ≡ Some (u32_at t.body.now (8 + 4 * i))
stco_entry t i e h = entry_is i (stco_has t.body.now (chunks_entries t) (stco_shown t e)) h

pub co64_entry : (t : Chunks) (i : ℕ) → t.wide ≡ true → i < length (chunks_entries t) → slice_get (chunks_entries t) i ≡ Some (u64_at t.body.now (8 + 8 * i))
co64_entry t i e h = entry_is i (co64_has t.body.now (chunks_entries t) (co64_shown t e)) h

pub ruleset chunks_views = (length-chunks_entries, stco_entry, co64_entry)
