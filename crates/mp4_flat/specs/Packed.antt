-- A packaging as it is put to a sink, name by name; this project's own.
use Rattle.std.specs.Prelude.{◌≡◌, ◌≢◌, ℕ, Bool, true, false, List, [], ◌∷◌, ◌++◌, codes, decimal, filter, flat_map, if◌then◌else◌, length, map, Option, Some, None}
use Rattle.std.specs.Result.{result_unwrap_or}
use Rattle.vod_types.specs.declared.paths.Ask.{Ask}
use Rattle.vod_types.specs.declared.paths.Leaf.{Leaf}
use Rattle.vod_types.specs.declared.paths.Leaf.TheVariants.{Index, Init, Mpd, Segment}
use Rattle.vod_types.specs.declared.refusal.Refusal.{Refusal}
use Rattle.vod_types.specs.declared.refusal.Refusal.TheVariants.{NoMemory, StoreFailed}
use Rattle.vod_types.specs.declared.segments.Form.TheVariants.{Fmp4}
use Rattle.vod_types.specs.declared.segments.SegmentRow.{SegmentRow}
use Rattle.vod_types.specs.declared.tracks.Asked.{Asked}
use Rattle.vod_types.specs.declared.tracks.Kind.{Kind}
use Rattle.vod_types.specs.declared.tracks.Kind.TheVariants.{Video, Audio}
use Rattle.vod_source.specs.Told.{told_with, GrewByPrefix}
use Rattle.list_model.specs.declared.Period.{Period}
use Rattle.list_model.specs.declared.Rep.{Rep}
use Rattle.list_model.specs.Names.{IsLeafOf, first_of_kind}
use Rattle.list_model.specs.Pack.{pack, playlist_leaves, track_leaves}
use Rattle.list_model.specs.Reply.{Answer, refusal_text}
use Rattle.list_model.specs.Text.{line}
use Rattle.origin_model.specs.Lists.{listed_segments}
use Rattle.origin_model.specs.Packaging.{packed_asking, packed_path, rows_or_none}
use Rattle.origin_model.specs.Requests.{Setup, Asking, asking_of}
use Rattle.flat_lists.specs.declared.shown.Shown.{Shown}
use Rattle.flat_lists.specs.Shown.{all_shown}
use Rattle.flat_segments.specs.declared.body.FlatBody.{FlatBody}
use Rattle.mp4_flat.specs.declared.entries.PackEnd.{PackEnd}
use Rattle.mp4_flat.specs.declared.entries.PackEnd.TheVariants.{Whole, Refused, SinkFailed}

-- the leaf is one of some protocol
abbrev pub IsOfProtocol : Leaf → Type 0
IsOfProtocol leaf = (dash : Bool) × IsLeafOf dash leaf

-- ---- names

-- a refusal that is none of what was asked
abbrev pub HasFailed : Refusal → Type 0
HasFailed refusal = refusal ≢ NoMemory → refusal ≢ StoreFailed → ⊥

-- ---- all names

-- the init segments that a media playlist names
abbrev pub named_inits : Bool → ℕ → Asked → List SegmentRow → List Leaf
named_inits fmp4 sequence asked rows = if fmp4 then map (λ row. Init row.part sequence asked) (filter (λ row. row.first_in_part) rows) else []

-- the media playlist of a sequence, and what that one names
abbrev pub sequence_leaves : Setup → Asking → ℕ → Asked → List Leaf
sequence_leaves o a sequence asked =
    Index sequence asked ∷ playlist_leaves o.settings.hls_fmp4 sequence asked (rows_or_none (listed_segments o a sequence asked))

-- those of the sequences of a master playlist
abbrev pub shown_leaves : Setup → Asking → List Shown → List Leaf
shown_leaves o a shown = flat_map (λ s. sequence_leaves o a s.sequence s.asked) shown

abbrev pub shown_or_none : Setup → Asking → List Shown
shown_or_none o a = result_unwrap_or (all_shown o a) []

-- those of a sequence of a media presentation description
abbrev pub described_leaves : List Period → ℕ → List Leaf
described_leaves periods sequence = track_leaves periods sequence Video ++ track_leaves periods sequence Audio

-- the listed fragments of a representation
abbrev pub rep_fragments : ℕ → Kind → Rep → List Leaf
rep_fragments sequence kind rep = map (λ row. Segment row.number sequence (first_of_kind kind) Fmp4) rep.rows

-- ---- an entry

-- the mark of a body that ends before a bad sample
abbrev pub cut_mark : Option (ℕ × ℕ) → List ℕ
cut_mark None = []
cut_mark (Some place) = codes " cut 28 BadNal"

abbrev pub body_line : List ℕ → FlatBody → List ℕ
body_line name body = line (name ++ codes " " ++ decimal (length body.bytes.items) ++ cut_mark body.cut)

abbrev pub refused_line : List ℕ → Refusal → List ℕ
refused_line name refusal = line (name ++ codes " " ++ refusal_text refusal)

-- ---- all of it

-- The list grew by what is due, a text and the refusal before which it ends, as the end says.
abbrev pub IsPackedAs : List ℕ × Option Refusal → PackEnd → Option (List ℕ) → Option (List ℕ) → Type 0
IsPackedAs due Whole before now = (due.1 ≡ None) × (now ≡ told_with before due.0)
IsPackedAs due (Refused e) before now = GrewByPrefix before now due.0 × (e ≢ NoMemory → e ≢ StoreFailed → (due.1 ≡ Some e) × (now ≡ told_with before due.0))
IsPackedAs due SinkFailed before now = GrewByPrefix before now due.0

-- So much of the text of these names was put, with these names left.
pub record IsPackPath (dash : Bool) (answer : Leaf → Answer) (leaves left : List Leaf) (before now : Option (List ℕ)) : Type 0 where
  pub text : List ℕ
  pub rest : pack dash answer leaves ≡ (text ++ (pack dash answer left).0, (pack dash answer left).1)
  pub grew : now ≡ told_with before text

-- the leaf is a media presentation description
abbrev pub is_description : Leaf → Bool
is_description Mpd = true
is_description _ = false

-- that of a request
abbrev pub packed_asked : Setup → Ask → List ℕ × Option Refusal
packed_asked o ask = packed_asking o ask (asking_of o ask)

-- that of a path
abbrev pub IsPacked : Setup → List ℕ → PackEnd → Option (List ℕ) → Option (List ℕ) → Type 0
IsPacked o path end before now = IsPackedAs (packed_path o path) end before now
