-- The representations of a part that was looked at.
use Rattle.std.proofs.Common.{ℕ, ◌≤◌, Option, Some, None, IfSome, sym, subst, arith}
use Rattle.std.specs.Prelude.{option_map}
use Rattle.vod_types.specs.declared.tracks.Kind.{Kind}
use Rattle.list_model.specs.Manifest.{HasCodecName}
use Rattle.flat_lists.specs.CountedCells.{counted}
use Rattle.flat_lists.specs.LookedSequences.{IsSeenTrack}
use Rattle.flat_lists.specs.PartTracks.{Seen}
use Rattle.seek_lists.specs.PartTracks.{seen_of}
use Rattle.flat_lists.specs.Written.{IsWritable}
use Rattle.seek_lists.specs.declared.part_tracks.PartTrack.{PartTrack}

pub whole_track : (kind : Kind) (track : Option PartTrack) → IfSome (option_map seen_of track) (IsSeenTrack kind) → IfSome track (λ t. IsWritable (seen_of t))
whole_track kind None h = tt
whole_track kind (Some t) h = record { codec = subst (λ (k : Kind). HasCodecName k t.facts.video) (sym h.kind_is) h.codec; rows = h.rows }

pub few_video : (f : Seen → ℕ) (once n : ℕ) (video : Option PartTrack) (audio : Option ℕ) → counted once (option_map f (option_map seen_of video)) audio ≤ n → IfSome video (λ t. f (seen_of t) ≤ n)
few_video f once n None audio h = tt
few_video f once n (Some v) audio h = omega (arith, h)

pub few_audio : (f : Seen → ℕ) (once n : ℕ) (video : Option ℕ) (audio : Option PartTrack) → counted once video (option_map f (option_map seen_of audio)) ≤ n → IfSome audio (λ t. f (seen_of t) ≤ n)
few_audio f once n video None h = tt
few_audio f once n None (Some t) h = h
few_audio f once n (Some v) (Some t) h = omega (arith, h)
