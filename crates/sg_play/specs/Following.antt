-- A play over a world beside the play without stops.
pub mod Asking
pub mod Follows
pub mod Stages
