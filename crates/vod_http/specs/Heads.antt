-- The lines of a reply's head round those that tell of the body's length (RFC 9112, section 4).
use Rattle.std.specs.Prelude.{ℕ, Bool, List, [], ◌++◌, codes, decimal, if◌then◌else◌}
use Rattle.vod_types.specs.declared.media.Media.{Media}
use Rattle.list_model.specs.Reply.{head_line, phrase, media_text}

-- the status line and the line of the media type
abbrev pub start_lines : ℕ → Media → List ℕ
start_lines status kind = head_line (codes "HTTP/1.1 " ++ decimal status ++ codes " " ++ phrase status) ++ head_line (codes "Content-Type: " ++ media_text kind)

-- the lines behind, and the empty line
abbrev pub end_lines : Bool → Bool → List ℕ
end_lines allow close =
    (if allow then head_line (codes "Allow: GET, HEAD") else []) ++ (if close then head_line (codes "Connection: close") else []) ++ head_line []
