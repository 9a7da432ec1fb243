-- For each public function: any two results that its statement allows are equal, with what is left behind each `&mut`.
-- Assumes nothing.
use mathlib.Core.Path.{refl}
use Rattle.lists.proofs.Unique.{Determined, ◌same◌, ◌&◌}
use Rattle.item_words.proofs.word_of.Kinds as word_of'
use Rattle.item_words.proofs.word_of.Reads as word_of
use Rattle.item_words.proofs.item_of.Kinds as item_of'
use Rattle.item_words.proofs.item_of.Reads as item_of
use Rattle.item_words.proofs.word_element_at.Kinds as word_element_at'
use Rattle.item_words.proofs.word_element_at.Reads as word_element_at
use Rattle.item_words.proofs.items_gate.Kinds as items_gate'
use Rattle.item_words.proofs.items_gate.Reads as items_gate
use Rattle.item_words.proofs.reset_gate.Kinds as reset_gate'
use Rattle.item_words.proofs.reset_gate.Reads as reset_gate
use Rattle.item_words.proofs.items_into.Kinds as items_into'
use Rattle.item_words.proofs.items_into.Reads as items_into
use Rattle.item_words.proofs.reset_into.Kinds as reset_into'
use Rattle.item_words.proofs.reset_into.Reads as reset_into
use Rattle.item_words.proofs.put_word_element.Kinds as put_word_element'
use Rattle.item_words.proofs.put_word_element.Reads as put_word_element
use Rattle.item_words.proofs.there.Kinds as there'
use Rattle.item_words.proofs.there.Reads as there
use Rattle.item_words.proofs.put_words.Kinds as put_words'
use Rattle.item_words.proofs.put_words.Reads as put_words
use Rattle.item_words.proofs.words_size.Kinds as words_size'
use Rattle.item_words.proofs.words_size.Reads as words_size
use Rattle.item_words.proofs.keep_identified.Kinds as keep_identified'
use Rattle.item_words.proofs.keep_identified.Reads as keep_identified

pub word_of_is : Determined word_of'.ps word_of'.r word_of.Asked word_of.Learnt
word_of_is κs a p x y e f = (e same f) & refl

pub item_of_is : Determined item_of'.ps item_of'.r item_of.Asked item_of.Learnt
item_of_is κs a p x y e f = (e same f) & refl

pub word_element_at_is : Determined word_element_at'.ps word_element_at'.r word_element_at.Asked word_element_at.Learnt
word_element_at_is κs a p x y e f = (e same f) & refl

pub items_gate_is : Determined items_gate'.ps items_gate'.r items_gate.Asked items_gate.Learnt
items_gate_is κs a p x y e f = (e same f) & refl

pub reset_gate_is : Determined reset_gate'.ps reset_gate'.r reset_gate.Asked reset_gate.Learnt
reset_gate_is κs a p x y e f = (e same f) & refl

pub items_into_is : Determined items_into'.ps items_into'.r items_into.Asked items_into.Learnt
items_into_is κs a p x y e f = (e.0 same f.0) & refl & refl & (e.1 same f.1) & refl

pub reset_into_is : Determined reset_into'.ps reset_into'.r reset_into.Asked reset_into.Learnt
reset_into_is κs a p x y e f = (e.0 same f.0) & refl & refl & (e.1 same f.1) & refl

pub put_word_element_is : Determined put_word_element'.ps put_word_element'.r put_word_element.Asked put_word_element.Learnt
put_word_element_is κs a p x y e f = (e.next same f.next) & (e.octets same f.octets) & refl

pub there_is : Determined there'.ps there'.r there.Asked there.Learnt
there_is κs a p x y e f = (e.0 same f.0) & refl

pub put_words_is : Determined put_words'.ps put_words'.r put_words.Asked put_words.Learnt
put_words_is κs a p x y e f = (e.next same f.next) & (e.octets same f.octets) & refl

pub words_size_is : Determined words_size'.ps words_size'.r words_size.Asked words_size.Learnt
words_size_is κs a p x y e f = (e 0 same f 0) & refl

pub keep_identified_is : Determined keep_identified'.ps keep_identified'.r keep_identified.Asked keep_identified.Learnt
keep_identified_is κs a p x y e f = (e.0 same f.0) & (e.1 same f.1) & refl
