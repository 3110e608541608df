-- A mapping, a timeline and what a request is about are refused as a path may be.
use Rattle.std.proofs.Common.{ℕ, Bool, true, false, List, [], ◌∷◌, Option}
use Rattle.std.specs.Prelude.{codes, is_some, Ok, Err}
use Rattle.serde_json.specs.Data.{Data}
use Rattle.serde_json.specs.Find.{get}
use Rattle.std.specs.Str.{bytes_eq}
use Rattle.vod_types.specs.declared.paths.Ask.{Ask}
use Rattle.vod_types.specs.declared.paths.Target.{Target}
use Rattle.vod_types.specs.declared.paths.Target.TheVariants.{One, Many}
use Rattle.vod_types.specs.declared.paths.Window.{Window}
use Rattle.vod_types.specs.declared.refusal.Refusal.TheVariants.{Unsupported}
use Rattle.vod_types.specs.declared.tracks.TrackName.{TrackName}
use Rattle.clip_model.specs.declared.Piece.{Piece}
use Rattle.clip_model.specs.Mapping.{Mapping}
use Rattle.clip_model.specs.Timeline.{Timeline, timeline_of}
use Rattle.clip_model.specs.Walk.{without_members, vod_alone, is_vod, typed_clip, clip_of, sequence_of, mapping_of_object, mapping_of}
use Rattle.vod_source.specs.Stored.{Files}
use Rattle.origin_model.specs.Requests.{Setup, Asking, asking_of, init_piece, first_piece, mapping_by, mapping_file, timeline_asked}
use Rattle.answer_laws.proofs.Steps.{May, then_may, after_may, ok_or_may, unless_may, each_may, if_may, some_may}

-- ---- mappings

without_may : (names : List (List ℕ)) (d : Data) → May (without_members names d)
without_may [] d = tt
without_may (name ∷ names) d = if_may (is_some (get name d)) (Err (Unsupported name)) (without_members names d) tt (without_may names d)

vod_may : (d : Data) → May (vod_alone d)
vod_may d = if_may (is_vod (get (codes "playlistType") d)) (Ok tt) (Err (Unsupported (codes "playlistType"))) tt tt

typed_may : (given : Bool) (type : List ℕ) (clip : Data) → May (typed_clip given type clip)
typed_may given type clip = if_may (bytes_eq type (codes "source")) _ _ (ok_or_may _ _ tt) (if_may (bytes_eq type (codes "concat")) _ _ (ok_or_may _ _ tt) tt)

clip_may : (given : Bool) (clip : Data) → May (clip_of given clip)
unfolding clip_of
clip_may given clip = search (then_may, without_may, ok_or_may, typed_may)

sequence_may : (durations : Option (List ℕ)) (sequence : Data) → May (sequence_of durations sequence)
unfolding sequence_of
sequence_may durations sequence = search (then_may, ok_or_may, each_may, clip_may) depth 12

object_may : (mapping : Data) → May (mapping_of_object mapping)
unfolding mapping_of_object
object_may mapping = search (then_may, without_may, vod_may, ok_or_may, each_may, sequence_may) depth 14

pub mapping_may : (bytes : List ℕ) → May (mapping_of bytes)
unfolding mapping_of
mapping_may bytes = search (then_may, ok_or_may, object_may)

-- ---- timelines

pub timeline_may : (root : List ℕ) (m : Mapping) (number : ℕ) (w : Window) (tracks : Option (List TrackName)) → May (timeline_of root m number w tracks)
unfolding timeline_of
timeline_may root m number w tracks = search (then_may, ok_or_may, if_may)

-- ---- what a request is about

file_may : (files : Files) (name : List ℕ) → May (mapping_file files name)
unfolding mapping_file
file_may files name = search (then_may, ok_or_may, after_may, unless_may, some_may, mapping_may)

by_target : (o : Setup) (local : Bool) (target : Target) (tracks : Option (List TrackName)) → May (mapping_by o local target tracks)
by_target o true target tracks = tt
by_target o false (One name) tracks = file_may o.files _
by_target o false (Many names) tracks = tt

pub asking_may : (o : Setup) (ask : Ask) → May (asking_of o ask)
unfolding asking_of
asking_may o ask = search (then_may, by_target)

-- ---- the first piece of a part

first_piece_may : (part : ℕ) (pieces : List Piece) → May (first_piece part pieces)
first_piece_may part [] = tt
first_piece_may part (piece ∷ pieces) = tt

pub init_piece_may : (t : Timeline) (number : ℕ) → May (init_piece t number)
unfolding init_piece
init_piece_may t number = search (then_may, ok_or_may, first_piece_may)

pub asked_timeline_may : (o : Setup) (a : Asking) (sequence : ℕ) → May (timeline_asked o a sequence)
asked_timeline_may o a sequence = timeline_may o.root a.mapping sequence a.window a.tracks
