pub mod CodeWalk
