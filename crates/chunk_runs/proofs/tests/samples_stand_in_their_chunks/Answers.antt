use Rattle.std.proofs.Common.{refl, lit<, lit≤}
use Rattle.vod_bytes.specs.Fields.{u32_at}
use Rattle.mp4_model.specs.Tables.{read_stts, read_stsc, read_stsz, read_stco}
use Rattle.mp4_model.specs.Validity.{first_broken_table, stts_is_good, ctts_is_good, stss_is_good, stsc_is_good}
use Rattle.chunk_runs.proofs.tests.samples_stand_in_their_chunks.Goals as goal

pub stand_at-requires-clause-fit : goal.stand_at-requires-clause-fit
unfolding read_stts read_stsc read_stsz read_stco first_broken_table stts_is_good ctts_is_good stss_is_good stsc_is_good u32_at
stand_at-requires-clause-fit g c =
    rw (c.read.ensures, c.read-2.ensures, c.read-3.ensures, c.read-4.ensures) (record { timescale = 1000; none_broken = refl; short = lit< tt })

pub stand_at-requires-clause-few : goal.stand_at-requires-clause-few
unfolding read_stsz u32_at
stand_at-requires-clause-few g c = rw c.read-3.ensures (lit≤ tt)

pub stand_at-requires-2-clause-fit : goal.stand_at-requires-2-clause-fit
unfolding read_stts read_stsc read_stsz read_stco first_broken_table stts_is_good ctts_is_good stss_is_good stsc_is_good u32_at
stand_at-requires-2-clause-fit g c =
    rw (c.read-5.ensures, c.read-6.ensures, c.read-7.ensures, c.read-8.ensures) (record { timescale = 1000; none_broken = refl; short = lit< tt })

pub stand_at-requires-2-clause-few : goal.stand_at-requires-2-clause-few
unfolding read_stsz u32_at
stand_at-requires-2-clause-few g c = rw c.read-7.ensures (lit≤ tt)
