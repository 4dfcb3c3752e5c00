-- The turns of replay one after the other. Assumes nothing.
use Rattle.std.proofs.Common.{◌≡◌, ℕ, zero, suc, ◌+◌, ◌*◌, ◌^◌, ◌<◌, ◌≤◌, refl, sym, ◌∙◌, ap, Bool, true, false, List, [], ◌∷◌, ◌++◌, length, take, arith}
use Rattle.std.proofs.Common.{Result, Ok, Err}
use Rattle.std.specs.Prelude.{⊤, IsErr}
use Rattle.std.proofs.lemmas.List.{append_assoc}
use mathlib.Core.Bool.{false≢true}
use mathlib.Core.Path.{ap₂}
use lib.ListN.{length-append, length-take}
use Rattle.basis.specs.Choice.{pick}
use Rattle.device_rules.specs.Rules.{After}
use Rattle.capture_rules.specs.Capture.{capture_most, Item, item_at, place_after, goes_on, part_of}
use Rattle.capture.specs.Items.{Entry, item_then, items_from, items}
use Rattle.capture.proofs.Items.{items_most}
use Rattle.text.specs.declared.writer.NoRoom.{NoRoom}
use Rattle.text.specs.declared.writer.Writer.{Writer}
use Rattle.text.specs.Text.{newline, number_text}
use Rattle.text.specs.Writing.{Puts}
use Rattle.text.proofs.Runs.{ends}
use Rattle.text.proofs.Pages.{puts_then, puts_none}
use Rattle.transcript.specs.Transcript.{reply_length, given, line, after, printed, text_from, start, line_most, out_room}
use Rattle.transcript.specs.Items.{settled, after_record, after_item, record_line, item_line, items_text, Prints}
use Rattle.transcript.proofs.Figures.{length_line, length_fault}

-- ---- the items' text is the capture's

module _ (capture : List ℕ) where
  text_then : (item : Item) (number at : ℕ) (s : After) (f : ℕ → ℕ → After → List ℕ) (g : ℕ → List (Result Entry (ℕ × ℕ)))
      → ((next : ℕ) (t : After) → f (number + 1) next t ≡ items_text (number + 1) (g next) (settled t))
      → printed number item (after capture item s) ++ pick (goes_on item) (f (number + 1) (place_after item at) (after capture item s)) []
      ≡ items_text number (item_then capture item at g) (settled s)
  unfolding printed after goes_on pick items_text given
  text_then (Item.found true start count) number at s f g e =
      ap (λ (t : List ℕ). line number (given s (part_of capture start count)) ++ t) (e (start + count) (given s (part_of capture start count)))
  text_then (Item.found false start count) number at s f g e = e (start + count) s
  text_then Item.end number at s f g e = refl
  text_then (Item.fault fault) number at s f g e = refl

  text_are : (most number at : ℕ) (s : After) → text_from capture most number at s ≡ items_text number (items_from capture most at) (settled s)
  unfolding text_from items_from items_text
  text_are zero number at s = refl
  text_are (suc most) number at s =
      text_then (item_at capture at) number at s (λ n next t. text_from capture most n next t) (items_from capture most)
      (λ next t. text_are most (number + 1) next t)

  pub text_is : text_from capture (suc (length capture)) 0 0 start ≡ items_text 0 (items capture 0) start
  unfolding start
  text_is = text_are (suc (length capture)) 0 0 start

  -- there is a line's room for each item in a buffer of the least size
  pub room_enough : length capture ≤ capture_most → line_most * length (items capture 0) ≤ out_room
  room_enough h = omega (arith, items_most capture)

-- ---- the loop

-- so much was printed, no more than a line for each item; and so many items were counted
pub record Played (w v : Writer) (number : ℕ) (s : After) (xs all : List (Result Entry (ℕ × ℕ))) (text : List ℕ) : Type 0 where
  pub done : List ℕ
  pub so_far : Puts done (Ok tt) w v
  pub parts : done ++ items_text number xs s ≡ text
  pub short : length done ≤ line_most * number
  pub counted : number + length xs ≡ length all

line_short : (number : ℕ) (x : Result Entry (ℕ × ℕ)) (s : After) → length (after_item x s).reply ≡ reply_length → length (item_line number x s) ≤ line_most
line_short number (Ok e) s h = by_direction e.to_device h
  where
    by_direction : (d : Bool) → length (after_record d e.message s).reply ≡ reply_length → length (record_line number d e.message s) ≤ line_most
    by_direction true h =
        length_line number (given s e.message).number (given s e.message).device.phase (take (given s e.message).length (given s e.message).reply)
        (simp length-take (omega arith))
    by_direction false h = omega arith
line_short number (Err f) s h = length_fault f.1

module _ {w v u : Writer} {number : ℕ} {s : After} {xs all rest : List (Result Entry (ℕ × ℕ))} {text : List ℕ} {x : Result Entry (ℕ × ℕ)} {t : After}
    (h : Played w v number s xs all text) (is : xs ≡ x ∷ rest) (d : t ≡ after_item x s) (r : length t.reply ≡ reply_length) where
  pub plays : {n k : ℕ} → n ≡ number → k ≡ number + 1 → Puts (item_line n x s) (Ok tt) v u → Played w u k t rest all text
  unfolding items_text
  plays {n} {k} a b q =
      let p : Puts (item_line number x s) (Ok tt) v u = rw a at q in
      let m : length xs ≡ suc (length rest) = ap length is in
      let l : length (item_line number x s) ≤ line_most = line_short number x s (ap (λ (a : After). length a.reply) (sym d) ∙ r) in
      rw (d, b) (record {
        done = h.done ++ item_line number x s;
        so_far = puts_then h.so_far p;
        parts = append_assoc h.done (item_line number x s) (items_text (number + 1) rest (after_item x s))
            ∙ ap (λ (ys : List (Result Entry (ℕ × ℕ))). h.done ++ items_text number ys s) (sym is) ∙ h.parts;
        short = omega (arith, length-append h.done (item_line number x s), l, h.short);
        counted = omega (arith, m, h.counted);
      })

  pub stops : {i : ℕ} {n : NoRoom} {q : Result ⊤ NoRoom} → line_most * length all ≤ out_room → i ≡ number → Puts (item_line i x s) (Err n) v u → IsErr q
      → Prints text q w u
  stops {i} {n} {q} enough a p k = go q (puts_then h.so_far (rw a at p)) k
    where
      m : length xs ≡ suc (length rest)
      m = ap length is

      short : length (item_line number x s) ≤ line_most
      short = line_short number x s (ap (λ (a : After). length a.reply) (sym d) ∙ r)

      go : (q : Result ⊤ NoRoom) → Puts (h.done ++ item_line number x s) (Err n) w u → IsErr q → Prints text q w u
      go (Ok y) b k = absurd (false≢true k)
      go (Err y) b k =
          record {
            written = tt;
            full = omega (arith, enough, b.full, length-append h.done (item_line number x s), short, h.short, m, h.counted);
            reference = b.reference;
          }

pub over : {w v : Writer} {number : ℕ} {s : After} {xs all : List (Result Entry (ℕ × ℕ))} {text : List ℕ} → Played w v number s xs all text → xs ≡ []
    → Prints text (Ok tt) w v
unfolding items_text
over {w} {v} {number} {s} h e =
    record {
      written = ends (record { done = h.done; so_far = h.so_far; parts = h.parts }) (ap (λ (ys : List (Result Entry (ℕ × ℕ))). items_text number ys s) e);
      full = tt;
      reference = h.so_far.reference;
    }

pub played_none : (w : Writer) {number : ℕ} {s s₀ : After} {xs all : List (Result Entry (ℕ × ℕ))} {text : List ℕ} → number ≡ 0 → s ≡ s₀ → xs ≡ all
    → text ≡ items_text 0 all s₀ → Played w w number s xs all text
played_none w n d e t =
    rw n (record {
      done = [];
      so_far = puts_none w tt;
      parts = ap₂ (λ ys a. items_text 0 ys a) e d ∙ sym t;
      short = omega arith;
      counted = omega (arith, ap length e);
    })

-- the count fits: there are no more items than bytes, and one
pub counted_fits : (capture : List ℕ) {number : ℕ} {xs : List (Result Entry (ℕ × ℕ))} → length capture ≤ capture_most → number ≡ 0 → xs ≡ items capture 0
    → number + length xs < 2 ^ 64
counted_fits capture h n e = omega (arith, h, n, ap length e, items_most capture)

-- the number 21, alone
pub prints_fault : (number : ℕ) {w v : Writer} {r : Result ⊤ NoRoom} → Puts (number_text number newline) r w v → Prints (number_text number newline) r w v
prints_fault number {w} {v} {r} p = go r p
  where
    go : (r : Result ⊤ NoRoom) → Puts (number_text number newline) r w v → Prints (number_text number newline) r w v
    go (Ok x) p = record { written = p; full = tt; reference = p.reference }
    go (Err x) p = record { written = tt; full = omega (arith, p.full, length_fault number); reference = p.reference }
