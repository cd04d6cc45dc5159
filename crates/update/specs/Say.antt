-- What the words of the code say, in the paper's terms.
use Rattle.std.specs.Prelude.{ℤ}
use Rattle.std.specs.Prelude as code
use Rattle.std.proofs.Math.Option.{Option, none, some}
use Rattle.bits.specs.Parsed as paper
use Rattle.standard.specs.Tree as tree
use Rattle.rows.specs.Say.{point_said, zone_said, size_said}
use Rattle.update.specs.declared.words.Placed.{Placed}
use Rattle.update.specs.declared.words.GainWord.{GainWord}
use Rattle.update.specs.declared.words.GainWord.TheVariants as gain
use Rattle.update.specs.declared.words.Basic.{Basic}
use Rattle.update.specs.declared.words.PointWord.{PointWord}
use Rattle.update.specs.declared.words.PointWord.TheVariants as point
use Rattle.update.specs.declared.words.PositionWord.{PositionWord}
use Rattle.update.specs.declared.words.Groups.{Groups}
use Rattle.update.specs.declared.words.Render.{Render}
use Rattle.update.specs.declared.words.Render.TheVariants as render
use Rattle.update.specs.declared.words.Update.{Update}
use Rattle.update.specs.declared.words.Update.TheVariants as update

module _ {A B : Type 0} where
  abbrev pub placed_said : (A → B) → Placed A → paper.Placed B
  placed_said say w = paper.placed_at w.at.0 (say w.word)

  abbrev pub asked_said : (A → B) → code.Option (Placed A) → Option (paper.Placed B)
  asked_said say code.None = none
  asked_said say (code.Some w) = some (placed_said say w)

module _ {A : Type 0} where
  -- the word that is said, or another value
  abbrev pub word_or : code.Option (Placed A) → A → A
  word_or code.None a = a
  word_or (code.Some w) a = w.word

-- as it stands in the code
abbrev pub number_said : ℤ → ℤ
number_said z = z

abbrev pub gain_said : GainWord → tree.GainWord
gain_said (gain.Level v) = tree.level v
gain_said gain.Copied = tree.copied

abbrev pub basic_said : Basic → tree.Basic
basic_said b = record { gain = asked_said gain_said b.gain; priority = asked_said number_said b.priority }

abbrev pub point_word_said : PointWord → tree.PointWord
point_word_said (point.Absolute p) = tree.absolute (point_said p)
point_word_said (point.Moved d) = tree.moved (point_said d)

abbrev pub position_said : PositionWord → tree.PositionWord
position_said w = record { point = point_word_said w.point; distance = w.distance }

abbrev pub groups_said : Groups → tree.Groups
groups_said w =
    record {
      position = asked_said position_said w.position;
      zone = asked_said zone_said w.zone;
      size = asked_said size_said w.size;
      screen = asked_said number_said w.screen;
      lock = placed_said number_said w.lock;
    }

abbrev pub render_said : Render → tree.Render
render_said (render.Default p) = tree.default p.0
render_said render.Kept = tree.kept
render_said (render.Given w) = tree.given (groups_said w)

abbrev pub update_said : Update → tree.Update
update_said (update.Inactive p) = tree.inactive p.0
update_said (update.Active b r) = tree.active (basic_said b) (render_said r)
