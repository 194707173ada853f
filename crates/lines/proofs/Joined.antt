-- A text written after another; the same text in other words.
use Prim.Native.Nat.{ℕ}
use mathlib.Core.Path.{◌≡◌, ap₂, ◌∙◌, subst}
use mathlib.Core.List.{List, ◌++◌}
use native.Mathlib.Omega.{arith}
use lib.ListN.{length-append}
use Rattle.octets.specs.Span.{put}
use Rattle.octets.proofs.Spans.{put-put}
use Rattle.lines.specs.Text.{Written}

pub joined : {a b c v w : List ℕ} {at r s : ℕ} → Written a at v b r → Written b r w c s → Written a at (v ++ w) c s
joined {a} {b} {c} {v} {w} {at} {r} {s} x y =
    record {
      content = y.content ∙ ap₂ (λ (l : List ℕ) (n : ℕ). put l n w) x.content x.end ∙ put-put a at v w;
      end = omega (arith, length-append v w);
    }

pub said : {a b v w : List ℕ} {at r : ℕ} → v ≡ w → Written a at v b r → Written a at w b r
said {a} {b} {v} {w} {at} {r} = subst (λ (text : List ℕ). Written a at text b r)
