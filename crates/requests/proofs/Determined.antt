-- For each public function: any two results that its statement allows are equal.
-- Assumes nothing.
use mathlib.Core.Path.{refl}
use Rattle.lists.proofs.Unique.{Determined, ◌same◌, ◌&◌}
use Rattle.requests.proofs.ask_of.Kinds as ask_of'
use Rattle.requests.proofs.ask_of.Reads as ask_of
use Rattle.requests.proofs.request_of.Kinds as request_of'
use Rattle.requests.proofs.request_of.Reads as request_of
use Rattle.requests.proofs.asks.Kinds as asks'
use Rattle.requests.proofs.asks.Reads as asks
use Rattle.requests.proofs.answers_setup.Kinds as answers_setup'
use Rattle.requests.proofs.answers_setup.Reads as answers_setup
use Rattle.requests.proofs.seen_in.Kinds as seen_in'
use Rattle.requests.proofs.seen_in.Reads as seen_in

pub ask_of_is : Determined ask_of'.ps ask_of'.r ask_of.Asked ask_of.Learnt
ask_of_is κs a p x y e f = (e same f) & refl

pub request_of_is : Determined request_of'.ps request_of'.r request_of.Asked request_of.Learnt
request_of_is κs a p x y e f = (e same f) & refl

pub asks_is : Determined asks'.ps asks'.r asks.Asked asks.Learnt
asks_is κs a p x y e f = (e same f) & refl

pub answers_setup_is : Determined answers_setup'.ps answers_setup'.r answers_setup.Asked answers_setup.Learnt
answers_setup_is κs a p x y e f = (e same f) & refl

pub seen_in_is : Determined seen_in'.ps seen_in'.r seen_in.Asked seen_in.Learnt
seen_in_is κs a p x y e f = (e same f) & refl
