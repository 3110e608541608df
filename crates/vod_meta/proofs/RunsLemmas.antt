-- A track that has checkpoints is one without a fault, and its tables are there.
use Rattle.std.proofs.Common.{◌≡◌, ℕ, ◌<◌, ◌≤◌, ◌^◌, List, Option, Some, None, Ok, sym, subst, ap, ◌∙◌}
use Rattle.vod_types.specs.declared.tracks.TrackName.{TrackName}
use Rattle.mp4_model.specs.Fitting.{FitTogether}
use Rattle.mp4_model.specs.GoodTracks.{GoodTrack, track_view}
use Rattle.mp4_model.specs.Movie.{moov_tracks}
use Rattle.mp4_model.specs.Tracks.{Track}
use Rattle.mp4_model.proofs.FittingLemmas.{usable_fits}
use Rattle.mp4_tables.specs.declared.tables.Tables.{Tables}
use Rattle.mp4_tables.specs.Views.{tables_of}
use Rattle.mp4_tracks.specs.Views.{AreTablesOf}
use Rattle.time_runs.specs.Checkpoints.{checkpoints_of as time_checkpoints}
use Rattle.chunk_runs.specs.Checkpoints.{checkpoints_of as place_checkpoints}
use Rattle.vod_meta.specs.declared.indexes.TrackIndex.{TrackIndex}
use Rattle.vod_meta.specs.declared.meta.Meta.TheInside.{Inside}
use Rattle.vod_meta.specs.Held.{HeldMovie, tracks_in}
use Rattle.vod_meta.specs.Kept.{held_view, IsMeta}
use Rattle.vod_meta.specs.Read.{shown_index}
use Rattle.vod_meta.proofs.ShownLemmas.{tracks-known, good-usable, indexed, IsIndexed}

-- the runs of a track with these checkpoints
pub record IsRun (tracks : List Track) (track : TrackName) (index : TrackIndex) (timescale : ℕ) (tables : Tables) : Type 0 where
  pub good : GoodTrack
  pub view : track_view tracks track ≡ Ok good
  pub same : (timescale ≡ good.timescale) × (tables_of tables ≡ good.tables)
  pub some : 1 ≤ timescale
  pub fit : FitTogether (tables_of tables)
  pub times : index.times ≡ time_checkpoints (tables_of tables)
  pub places : index.places ≡ place_checkpoints (tables_of tables)

-- what was found of it
abbrev pub Shows : List ℕ → TrackName → Option (ℕ × Tables) → Type 0
Shows moov track found = (ts : List Track) (t : GoodTrack) → moov_tracks moov ≡ Ok ts → track_view ts track ≡ Ok t → AreTablesOf t found

module _ (m : Inside) (meta : IsMeta m) (track : TrackName) (index : TrackIndex) where
  module _ (named : Some index ≡ shown_index (tracks_in m.moov.items) track) where
    good-at : IsIndexed (held_view m).movie track index
    good-at = indexed (held_view m).movie track index (sym named)

    shown-at : (found : Option (ℕ × Tables)) → Shows m.moov.items track found → AreTablesOf good-at.good found
    shown-at found shows = shows (tracks_in m.moov.items) good-at.good (tracks-known m.moov.items m.tracks meta.made track) good-at.view

    run-at : (timescale : ℕ) (tables : Tables) → Shows m.moov.items track (Some (timescale, tables)) → timescale < 2 ^ 32 → IsRun (tracks_in m.moov.items) track index timescale tables
    run-at timescale tables shows small =
        let at = shown-at (Some (timescale, tables)) shows in
        let usable = good-usable m.moov.items m.tracks meta.made track good-at.good good-at.view (subst (λ (n : ℕ). n < 2 ^ 32) at.0 small) in
        record {
          good = good-at.good;
          view = good-at.view;
          same = at;
          some = subst (λ (n : ℕ). 1 ≤ n) (sym at.0) usable.timescale;
          fit = subst (λ t. FitTogether t) (sym at.1) (usable_fits good-at.good usable);
          times = ap (λ (i : TrackIndex). i.times) good-at.checkpoints ∙ ap (λ t. time_checkpoints t) (sym at.1);
          places = ap (λ (i : TrackIndex). i.places) good-at.checkpoints ∙ ap (λ t. place_checkpoints t) (sym at.1);
        }

  -- of the metadata as contracts see them
  module _ (held : HeldMovie) (is : held_view m ≡ held) (named : Some index ≡ shown_index held.movie.tracks track) where
    within : Some index ≡ shown_index (tracks_in m.moov.items) track
    within = subst (λ (h : HeldMovie). Some index ≡ shown_index h.movie.tracks track) (sym is) named

    pub always-shown : Shows m.moov.items track None → ⊥
    always-shown shows = shown-at within None shows

    pub run-of : (timescale : ℕ) (tables : Tables) → Shows m.moov.items track (Some (timescale, tables)) → timescale < 2 ^ 32 → IsRun held.movie.tracks track index timescale tables
    run-of timescale tables shows small = subst (λ (h : HeldMovie). IsRun h.movie.tracks track index timescale tables) is (run-at within timescale tables shows small)
