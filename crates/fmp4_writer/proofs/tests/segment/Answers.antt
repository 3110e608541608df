use Rattle.std.proofs.Common.{◌≡◌, ◌∷◌, [], ℕ, List, length, Some, codes, pos, true, refl, rules, arith, lit≤, lit<}
use Rattle.std.proofs.lemmas.List.Elements.{All-nil, All-cons}
use Rattle.vod_types.specs.declared.segments.Row.{Row}
use Rattle.vod_types.specs.SegmentRows.{SegmentRows}
use Rattle.vod_source.specs.Stored.{file_named}
use Rattle.media_model.specs.Laws.{AreFragmentTracks}
use Rattle.fmp4_writer.specs.Samples.{IsReadable}
use Rattle.fmp4_writer.specs.Progress.{AreWritable}
use Rattle.fmp4_writer.proofs.tests.segment.Goals as goal

row : ℕ → ℕ → ℕ → ℕ → Row
row number at size time = record { file = 0; number = number; sample = record { at = at; size = size; dts = pos time; pts = pos time; dur = 1920; sync = true } }

abbrev rows : SegmentRows
rows = record { video = []; audio = row 0 0 10 0 ∷ row 1 10 20 1920 ∷ []; name = λ _. codes "a.mp4"; config = λ _ _. [] }

are_tracks : AreFragmentTracks [] rows.audio
unfolding row
are_tracks = record {
  video_rows = record { count = lit≤ tt; times = tt; offsets = tt };
  audio_rows = record { count = lit≤ tt; times = (search rules, (search rules, tt)); offsets = (search rules, (search rules, tt)) };
  bytes = lit≤ tt;
}

module _ (bytes : List ℕ) (many : length bytes ≡ 30) where
  abbrev readable : Row → Type 0
  readable = IsReadable (Some ((codes "a.mp4", bytes) ∷ [])) rows

  first : readable (row 0 0 10 0)
  unfolding row file_named
  first = record { fits = lit< tt; within = omega (arith, many) }

  second : readable (row 1 10 20 1920)
  unfolding row file_named
  second = record { fits = lit< tt; within = omega (arith, many) }

  are_writable : AreWritable (Some ((codes "a.mp4", bytes) ∷ [])) rows
  are_writable = record {
    tracks = are_tracks;
    samples = record {
      video = All-nil readable;
      audio = All-cons readable (row 0 0 10 0) (row 1 10 20 1920 ∷ []) first (All-cons readable (row 1 10 20 1920) [] second (All-nil readable));
    };
  }

pub write_fragment-ended-requires : goal.write_fragment-ended-requires
unfolding row
write_fragment-ended-requires c = record { writable = rw (c.in_ok-store.ensures, c.audio_row.ensures, c.audio_row-2.ensures) (are_writable _ refl) }
