-- A text that is written part by part, as it stands after each part.
use Rattle.std.specs.Prelude.{ℕ, ◌+◌, ◌-◌, ◌^◌, List, length, take}
use Rattle.octets.specs.Span.{put}
use Rattle.lines.specs.declared.text.Text.{Text}

-- the length of a text is at most this, since it stands in 64 bits
abbrev pub most : ℕ
most = 2 ^ 64 - 1

-- t with the letters v after what was written, as many as can be counted
unfoldable pub extended : Text → List ℕ → Text
extended t v =
    let more = take (most - t.at) v in record { out = record t.out { now = put t.out.now t.at more }; at = t.at + length more }
