mod Parts
mod Making
mod Nodes
mod Onward
mod Turning
