use Rattle.std.proofs.Common.{◌<◌, get_or, refl, arith}
use Rattle.airs.specs.Strips.{strip_lanes}
use Rattle.airs.proofs.Puts.{site_below}
use Rattle.airs.proofs.Strips.{counted, place_fits, reads}
use Rattle.airs.proofs.strip.Strip.word.Goals as goal

pub offset_bounds-self-position : goal.offset_bounds-self-position
offset_bounds-self-position c =
    let t = c.args.self.now in
    let s = c.args.site in
    let k = c.args.position in
    let n = c.requires in
    let below = site_below (strip_lanes t) s k refl n in
    let h : k < get_or t.counts s 0 = omega (arith, counted t s below) in
    omega (arith, t.within s below)

pub bounds-self-position : goal.bounds-self-position
bounds-self-position c =
    let t = c.args.self.now in
    let s = c.args.site in
    let k = c.args.position in
    let n = c.requires in
    let below = site_below (strip_lanes t) s k refl n in
    let h : k < get_or t.counts s 0 = omega (arith, counted t s below) in
    omega (arith, t.within s below)

pub bounds-self-place : goal.bounds-self-place
bounds-self-place c =
    let t = c.args.self.now in
    let s = c.args.site in
    let k = c.args.position in
    let n = c.requires in
    let below = site_below (strip_lanes t) s k refl n in
    let h : k < get_or t.counts s 0 = omega (arith, counted t s below) in
    place_fits t s below k h

pub returns : goal.returns
returns c =
    let t = c.args.self.now in
    let s = c.args.site in
    let k = c.args.position in
    let n = c.requires in
    let below = site_below (strip_lanes t) s k refl n in
    let h : k < get_or t.counts s 0 = omega (arith, counted t s below) in
    reads t s below k h
