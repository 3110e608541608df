-- The first broken table, by the checks that come before it.
use Rattle.std.proofs.Common.{◌≡◌, ℕ, Bool, true, false, Option, Some, None, is_some, refl}
use Rattle.std.specs.Prelude.{option_map}
use Rattle.std.specs.Option.{option_map_or}
use Rattle.vod_types.specs.declared.TableName.TheVariants.{Stts, Ctts, Stss, Stsc, Stsz, Chunks}
use Rattle.mp4_model.specs.Tables.{SampleTables}
use Rattle.mp4_model.specs.Validity.{known_samples, known_chunks, stts_is_good, ctts_is_good, stss_is_good, stsc_is_good, first_broken_table}

pub is_some-option_map : {X Y : Type 0} (f : X → Y) (o : Option X) → is_some (option_map f o) ≡ is_some o
is_some-option_map f None = refl
is_some-option_map f (Some x) = refl

module _ (t : SampleTables) (timescale : ℕ) where
  abbrev pub stts_passes : Bool
  stts_passes = option_map_or (stts_is_good (known_samples t)) t.stts false

  abbrev pub ctts_passes : Bool
  ctts_passes = option_map_or (ctts_is_good (known_samples t) timescale) t.ctts true

  abbrev pub stss_passes : Bool
  stss_passes = option_map_or (stss_is_good (known_samples t)) t.stss true

  abbrev pub stsc_passes : Bool
  stsc_passes = option_map_or (stsc_is_good (known_samples t) (known_chunks t)) t.stsc false

  pub broken_stts : stts_passes ≡ false → first_broken_table t timescale ≡ Some Stts
  unfolding first_broken_table
  broken_stts a = rw a refl

  pub broken_ctts : stts_passes ≡ true → ctts_passes ≡ false → first_broken_table t timescale ≡ Some Ctts
  unfolding first_broken_table
  broken_ctts a b = rw (a, b) refl

  pub broken_stss : stts_passes ≡ true → ctts_passes ≡ true → stss_passes ≡ false → first_broken_table t timescale ≡ Some Stss
  unfolding first_broken_table
  broken_stss a b c = rw (a, b, c) refl

  pub broken_stsc : stts_passes ≡ true → ctts_passes ≡ true → stss_passes ≡ true → stsc_passes ≡ false → first_broken_table t timescale ≡ Some Stsc
  unfolding first_broken_table
  broken_stsc a b c d = rw (a, b, c, d) refl

  pub broken_stsz : stts_passes ≡ true → ctts_passes ≡ true → stss_passes ≡ true → stsc_passes ≡ true → is_some t.stsz ≡ false → first_broken_table t timescale ≡ Some Stsz
  unfolding first_broken_table
  broken_stsz a b c d e = rw (a, b, c, d, e) refl

  pub broken_chunks : stts_passes ≡ true → ctts_passes ≡ true → stss_passes ≡ true → stsc_passes ≡ true → is_some t.stsz ≡ true → is_some t.chunks ≡ false → first_broken_table t timescale ≡ Some Chunks
  unfolding first_broken_table
  broken_chunks a b c d e f = rw (a, b, c, d, e, f) refl

  pub broken_none : stts_passes ≡ true → ctts_passes ≡ true → stss_passes ≡ true → stsc_passes ≡ true → is_some t.stsz ≡ true → is_some t.chunks ≡ true → first_broken_table t timescale ≡ None
  unfolding first_broken_table
  broken_none a b c d e f = rw (a, b, c, d, e, f) refl
