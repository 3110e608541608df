-- Bodies that are begun; this project's own.
use Rattle.std.specs.Prelude.{◌≡◌, ℕ, ◌+◌, ◌^◌, ◌<◌, Bool, true, false, List, length, is_none, IsTrue, Option, Some, None, option_map}
use Rattle.vod_types.specs.declared.media.Media.{Media}
use Rattle.vod_types.specs.declared.media.Media.TheVariants.{Ts}
use Rattle.vod_types.specs.declared.paths.Ask.{Ask}
use Rattle.vod_types.specs.declared.paths.ByteRange.{ByteRange}
use Rattle.vod_types.specs.declared.paths.Leaf.{Leaf}
use Rattle.vod_types.specs.declared.refusal.Refusal.TheVariants.{NoMemory}
use Rattle.vod_types.specs.declared.segments.Form.{Form}
use Rattle.vod_types.specs.declared.segments.Form.TheVariants as forms
use Rattle.vod_types.specs.declared.tracks.Asked.{Asked}
use Rattle.vod_types.specs.Settled.{Settled}
use Rattle.media_model.specs.Fragment.{fragment_size}
use Rattle.list_model.specs.Reply.{Answer, leaf_media, mp4_media, told_length}
use Rattle.vod_source.specs.Stored.{Files}
use Rattle.vod_http.specs.Answered.{IfBegun, IsReply, rest_of}
use Rattle.vod_http.specs.declared.answerer.Reply.{Reply}
use Rattle.vod_http.specs.declared.answerer.Reply.TheVariants.{Body, Refused}
use Rattle.origin_model.specs.Answers.{ask_answer}
use Rattle.fmp4_writer.specs.declared.writing.Progress.TheVariants.{Front}
use Rattle.ts_writer.specs.Progress.{segment_begun}
use Rattle.flat_lists.specs.Asked.{setup_of}
use Rattle.flat_segments.specs.declared.body.FlatBody.{FlatBody}
use Rattle.mp4_flat.specs.Flat.{is_stream}
use Rattle.vod_plan.specs.Planned.{Planned, plan_rows}
use Rattle.vod_origin.specs.declared.cursor.Cursor.{Cursor}
use Rattle.vod_origin.specs.declared.cursor.Cursor.TheVariants.{Made, Fragment, Stream}
use Rattle.vod_origin.specs.declared.cursor.MadeBody.{MadeBody}
use Rattle.vod_origin.specs.Bodies.{IsBodyOf, calls_left, is_in_packets, is_under_way, rest_in}

-- ---- any reply

-- what a request is answered with, where files are told and a range of bytes may be asked for
abbrev pub asked_part : Settled → List ℕ → Option ByteRange → Ask → Option Files → Option Answer
asked_part settings root range ask content = option_map (λ files. ask_answer (setup_of settings root files) range ask) content

-- and where it isn't
abbrev pub asked_answer : Settled → List ℕ → Ask → Option Files → Option Answer
asked_answer settings root ask content = asked_part settings root None ask content

-- a reply gives the answer, whatever range is asked for
abbrev pub Replies : Option Answer → ℕ → ℕ → Reply Cursor → Type 0
Replies told before now reply = (range : Option ByteRange) → IsReply range told before now reply

-- the cursor of a body that was begun stands for all of it
pub record Begins (told : Option Answer) (content : Option Files) (reply : Reply Cursor) : Type 0 where
  pub belongs : IfBegun reply (λ _ cursor. IsBodyOf content cursor)
  pub under_way : IfBegun reply (λ _ cursor. IsTrue (is_under_way cursor))
  pub few : IfBegun reply (λ _ cursor. calls_left cursor < 2 ^ 32)
  pub rest : IfBegun reply (λ _ cursor. rest_in content cursor ≡ rest_of told)
  pub in_packets : IfBegun reply (λ n cursor. is_in_packets cursor ≡ is_none n)

-- ---- a body that is made

-- the cursor of a leaf's body of which nothing is written
pub record IsFreshBody (leaf : Leaf) (made : FlatBody) (b : MadeBody) : Type 0 where
  pub body : b.body ≡ made
  pub in_packets : b.in_packets ≡ is_stream leaf
  pub waits : b.waits ≡ true

abbrev pub IsFresh : Leaf → FlatBody → Cursor → Type 0
IsFresh leaf made (Made b) = IsFreshBody leaf made b
IsFresh leaf made (Fragment b) = ⊥
IsFresh leaf made (Stream b) = ⊥

-- the reply with a leaf's body
abbrev pub IsBegun : Leaf → FlatBody → Reply Cursor → Type 0
IsBegun leaf body (Refused why) = ⊥
IsBegun leaf body (Body kind n part cursor) = (kind ≡ leaf_media leaf) × (n ≡ told_length leaf (length body.bytes.items)) × (part ≡ None) × IsFresh leaf body cursor

-- the cursor of bytes of which none is written
pub record IsFreshOf (bytes : List ℕ) (b : MadeBody) : Type 0 where
  pub bytes_are : b.body.bytes.items ≡ bytes
  pub uncut : b.body.cut ≡ None
  pub in_packets : b.in_packets ≡ false
  pub waits : b.waits ≡ true

abbrev pub IsFreshAs : List ℕ → Cursor → Type 0
IsFreshAs bytes (Made b) = IsFreshOf bytes b
IsFreshAs bytes (Fragment b) = ⊥
IsFreshAs bytes (Stream b) = ⊥

-- the reply with bytes that are made, or with those of a part
abbrev pub IsMadeReply : Media → ℕ → Option (ℕ × ℕ × ℕ) → List ℕ → Reply Cursor → Type 0
IsMadeReply media long told bytes (Refused why) = ⊥
IsMadeReply media long told bytes (Body kind n part cursor) = (kind ≡ media) × (n ≡ Some long) × (part ≡ told) × IsFreshAs bytes cursor

-- ---- a plan's body

-- the reply with a fragment of a number and asked tracks
abbrev pub IsFragmentReply : ℕ → Asked → Planned → Reply Cursor → Type 0
IsFragmentReply number asked plan (Refused why) = ⊥
IsFragmentReply number asked plan (Body kind n part cursor) =
    (kind ≡ mp4_media asked)
    × (n ≡ Some (fragment_size (length (plan_rows plan).video) (length (plan_rows plan).audio) plan.bytes))
    × (part ≡ None)
    × (cursor ≡ Fragment (record { plan = plan; writing = Front number }))

-- a stream before its first step, of few rows
pub record IsFreshStream (asked : Asked) (plan : Planned) (cursor : Cursor) : Type 0 where
  pub cursor_is : cursor ≡ Stream (record { plan = plan; writing = segment_begun plan.largest asked plan.hevc })
  pub few : length (plan_rows plan).video + length (plan_rows plan).audio + 1 < 2 ^ 32

-- the reply with a stream of asked tracks: for a head alone no memory is taken
abbrev pub IsStreamReply : Bool → Asked → Planned → Reply Cursor → Type 0
IsStreamReply head_only asked plan (Refused why) = why ≡ NoMemory
IsStreamReply head_only asked plan (Body kind n part cursor) =
    (kind ≡ Ts) × (n ≡ None) × (part ≡ None) × (head_only ≡ false → IsFreshStream asked plan cursor)

-- by its form
abbrev pub IsPlanReply : Bool → ℕ → Asked → Form → Planned → Reply Cursor → Type 0
IsPlanReply head_only number asked forms.Ts plan reply = IsStreamReply head_only asked plan reply
IsPlanReply head_only number asked forms.Fmp4 plan reply = IsFragmentReply number asked plan reply
